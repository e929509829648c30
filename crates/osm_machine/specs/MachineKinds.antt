-- The machines of all kinds of tasks, as one: each means what its part means.
-- Here a machine is known by its part; the code has one variant for each.
use Rattle.osm_entity.specs.Machines.{Meanings}
use Rattle.osm_entity.specs.OneInput.{meanings_of}
use Rattle.osm_merge.specs.TwoInputs.{meanings_of_two}
use Rattle.osm_machine.specs.Sums.{MeaningAt, meanings_by, part_means}
use Rattle.osm_change.specs.Applying.{applying}
use Rattle.osm_change.specs.Simplifying.{simplifying}
use Rattle.osm_filter.specs.Filtering.{filtering}
use Rattle.osm_machine.specs.Copying.{copying}
use Rattle.osm_machine.specs.Emptying.{dropping, emptying}
use Rattle.osm_machine.specs.Making.{making}
use Rattle.osm_machine.specs.Reading.{reading}
use Rattle.osm_machine.specs.Writing.{writing}
use Rattle.osm_merge.specs.Append.{appending}
use Rattle.osm_merge.specs.Merging.{merging}
use Rattle.osm_select.specs.Selecting.{selecting}
use Rattle.osm_sort.specs.SortMachine.{sorting}
use Rattle.osm_used.specs.Using.{keeping_used}
use Rattle.osm_machine.specs.declared.kind.MachineKind.{MachineKind}
use Rattle.osm_machine.specs.declared.kind.MachineKind.TheVariants.{Read, Make, Nothing, Write, Drops, Copies, Filters, UsesNodes, UsesWays, Sorts, Merges, Appends, Applies, Simplifies, Selects}

-- what a machine means: what its part does
abbrev pub kind_means : {S K : Type 0} → MachineKind S K → MeaningAt (MachineKind S K)
kind_means (Read m) = part_means reading Read m
kind_means (Make m) = part_means making Make m
kind_means (Nothing m) = part_means emptying Nothing m
kind_means (Write m) = part_means writing Write m
kind_means (Drops m) = part_means dropping Drops m
kind_means (Copies m) = part_means copying Copies m
kind_means (Filters m) = part_means (meanings_of filtering) Filters m
kind_means (UsesNodes m) = part_means (meanings_of keeping_used) UsesNodes m
kind_means (UsesWays m) = part_means (meanings_of keeping_used) UsesWays m
kind_means (Sorts m) = part_means (meanings_of sorting) Sorts m
kind_means (Merges m) = part_means (meanings_of_two merging) Merges m
kind_means (Appends m) = part_means (meanings_of_two appending) Appends m
kind_means (Applies m) = part_means (meanings_of_two applying) Applies m
kind_means (Simplifies m) = part_means (meanings_of simplifying) Simplifies m
kind_means (Selects m) = part_means (meanings_of selecting) Selects m

-- what the machines of all kinds mean
abbrev pub machines : {S K : Type 0} → Meanings (MachineKind S K)
machines = meanings_by kind_means
