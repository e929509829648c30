-- The machines of all kinds are lawful, since their parts are.
use Rattle.std.proofs.Common.{refl}
use Rattle.osm_entity.specs.Machines.{AreLawful}
use Rattle.osm_entity.specs.OneInput.{meanings_of}
use Rattle.osm_merge.specs.TwoInputs.{meanings_of_two}
use Rattle.osm_change.specs.Applying.{applying}
use Rattle.osm_change.specs.Simplifying.{simplifying}
use Rattle.osm_filter.specs.Filtering.{filtering}
use Rattle.osm_machine.specs.Copying.{copying}
use Rattle.osm_machine.specs.Emptying.{dropping, emptying}
use Rattle.osm_machine.specs.Making.{making}
use Rattle.osm_machine.specs.Reading.{reading}
use Rattle.osm_machine.specs.Writing.{writing}
use Rattle.osm_merge.specs.Append.{appending}
use Rattle.osm_merge.specs.Merging.{merging}
use Rattle.osm_select.specs.Selecting.{selecting}
use Rattle.osm_sort.specs.SortMachine.{sorting}
use Rattle.osm_used.specs.Using.{keeping_used}
use Rattle.osm_change.proofs.SimplifyMachine.{simplify_is_lawful}
use Rattle.osm_filter.proofs.FilterLemmas.{filtering_is_lawful}
use Rattle.osm_machine.proofs.CopyingLemmas.{copying_is_lawful}
use Rattle.osm_machine.proofs.EmptyingLemmas.{dropping_is_lawful, emptying_is_lawful}
use Rattle.osm_machine.proofs.MakingLaws.{making_is_lawful}
use Rattle.osm_machine.proofs.MergeLaws.{appending_is_lawful, applying_is_lawful, merging_is_lawful}
use Rattle.osm_machine.proofs.ReadingLaws.{reading_is_lawful}
use Rattle.osm_machine.proofs.WritingLemmas.{writing_is_lawful}
use Rattle.osm_select.proofs.SelectingLemmas.{selecting_is_lawful}
use Rattle.osm_sort.proofs.SortMachineLemmas.{sort_is_lawful}
use Rattle.osm_used.proofs.UsingLemmas.{using_is_lawful}
use Rattle.osm_machine.specs.MachineKinds.{kind_means, machines}
use Rattle.osm_machine.specs.declared.kind.MachineKind.{MachineKind}
use Rattle.osm_machine.specs.declared.kind.MachineKind.TheVariants.{Read, Make, Nothing, Write, Drops, Copies, Filters, UsesNodes, UsesWays, Sorts, Merges, Appends, Applies, Simplifies, Selects}
use Rattle.osm_machine.proofs.SumLemmas.{IsLawful, IsPart, is_part, part_is_lawful}

module _ {S K : Type 0} where
  abbrev pub read_part : IsPart reading (machines {S = S} {K = K}) Read
  read_part = is_part reading kind_means Read (λ m. refl)

  abbrev pub make_part : IsPart making (machines {S = S} {K = K}) Make
  make_part = is_part making kind_means Make (λ m. refl)

  abbrev pub nothing_part : IsPart emptying (machines {S = S} {K = K}) Nothing
  nothing_part = is_part emptying kind_means Nothing (λ m. refl)

  abbrev pub write_part : IsPart writing (machines {S = S} {K = K}) Write
  write_part = is_part writing kind_means Write (λ m. refl)

  abbrev pub drops_part : IsPart dropping (machines {S = S} {K = K}) Drops
  drops_part = is_part dropping kind_means Drops (λ m. refl)

  abbrev pub copies_part : IsPart copying (machines {S = S} {K = K}) Copies
  copies_part = is_part copying kind_means Copies (λ m. refl)

  abbrev pub filters_part : IsPart (meanings_of filtering) (machines {S = S} {K = K}) Filters
  filters_part = is_part (meanings_of filtering) kind_means Filters (λ m. refl)

  abbrev pub uses_nodes_part : IsPart (meanings_of keeping_used) (machines {S = S} {K = K}) UsesNodes
  uses_nodes_part = is_part (meanings_of keeping_used) kind_means UsesNodes (λ m. refl)

  abbrev pub uses_ways_part : IsPart (meanings_of keeping_used) (machines {S = S} {K = K}) UsesWays
  uses_ways_part = is_part (meanings_of keeping_used) kind_means UsesWays (λ m. refl)

  abbrev pub sorts_part : IsPart (meanings_of sorting) (machines {S = S} {K = K}) Sorts
  sorts_part = is_part (meanings_of sorting) kind_means Sorts (λ m. refl)

  abbrev pub merges_part : IsPart (meanings_of_two merging) (machines {S = S} {K = K}) Merges
  merges_part = is_part (meanings_of_two merging) kind_means Merges (λ m. refl)

  abbrev pub appends_part : IsPart (meanings_of_two appending) (machines {S = S} {K = K}) Appends
  appends_part = is_part (meanings_of_two appending) kind_means Appends (λ m. refl)

  abbrev pub applies_part : IsPart (meanings_of_two applying) (machines {S = S} {K = K}) Applies
  applies_part = is_part (meanings_of_two applying) kind_means Applies (λ m. refl)

  abbrev pub simplifies_part : IsPart (meanings_of simplifying) (machines {S = S} {K = K}) Simplifies
  simplifies_part = is_part (meanings_of simplifying) kind_means Simplifies (λ m. refl)

  abbrev pub selects_part : IsPart (meanings_of selecting) (machines {S = S} {K = K}) Selects
  selects_part = is_part (meanings_of selecting) kind_means Selects (λ m. refl)

  lawful_at : (m : MachineKind S K) → IsLawful machines m
  lawful_at (Read m) = part_is_lawful reading machines Read read_part reading_is_lawful m
  lawful_at (Make m) = part_is_lawful making machines Make make_part making_is_lawful m
  lawful_at (Nothing m) = part_is_lawful emptying machines Nothing nothing_part emptying_is_lawful m
  lawful_at (Write m) = part_is_lawful writing machines Write write_part writing_is_lawful m
  lawful_at (Drops m) = part_is_lawful dropping machines Drops drops_part dropping_is_lawful m
  lawful_at (Copies m) = part_is_lawful copying machines Copies copies_part copying_is_lawful m
  lawful_at (Filters m) = part_is_lawful (meanings_of filtering) machines Filters filters_part filtering_is_lawful m
  lawful_at (UsesNodes m) = part_is_lawful (meanings_of keeping_used) machines UsesNodes uses_nodes_part using_is_lawful m
  lawful_at (UsesWays m) = part_is_lawful (meanings_of keeping_used) machines UsesWays uses_ways_part using_is_lawful m
  lawful_at (Sorts m) = part_is_lawful (meanings_of sorting) machines Sorts sorts_part sort_is_lawful m
  lawful_at (Merges m) = part_is_lawful (meanings_of_two merging) machines Merges merges_part merging_is_lawful m
  lawful_at (Appends m) = part_is_lawful (meanings_of_two appending) machines Appends appends_part appending_is_lawful m
  lawful_at (Applies m) = part_is_lawful (meanings_of_two applying) machines Applies applies_part applying_is_lawful m
  lawful_at (Simplifies m) = part_is_lawful (meanings_of simplifying) machines Simplifies simplifies_part simplify_is_lawful m
  lawful_at (Selects m) = part_is_lawful (meanings_of selecting) machines Selects selects_part selecting_is_lawful m

  pub machines_are_lawful : AreLawful (machines {S = S} {K = K})
  machines_are_lawful = record {
    behind = λ m. (lawful_at m).behind;
    wants = λ m. (lawful_at m).wants;
    running = λ m. (lawful_at m).running;
    onward = λ m. (lawful_at m).onward;
  }
