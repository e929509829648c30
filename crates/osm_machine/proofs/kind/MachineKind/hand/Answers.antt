use Rattle.std.proofs.lemmas.Result.{IfOk-weaker}
use Rattle.osm_entity.specs.OneInput.{meanings_of}
use Rattle.osm_merge.specs.TwoInputs.{meanings_of_two}
use Rattle.osm_change.specs.Applying.{applying}
use Rattle.osm_change.specs.Simplifying.{simplifying}
use Rattle.osm_filter.specs.Filtering.{filtering}
use Rattle.osm_machine.specs.Copying.{copying}
use Rattle.osm_machine.specs.Emptying.{emptying}
use Rattle.osm_machine.specs.Making.{making}
use Rattle.osm_machine.specs.Reading.{reading}
use Rattle.osm_merge.specs.Append.{appending}
use Rattle.osm_merge.specs.Merging.{merging}
use Rattle.osm_select.specs.Selecting.{selecting}
use Rattle.osm_sort.specs.SortMachine.{sorting}
use Rattle.osm_used.specs.Using.{keeping_used}
use Rattle.osm_machine.specs.MachineKinds.{machines}
use Rattle.osm_machine.specs.declared.kind.MachineKind.TheVariants.{Read, Make, Nothing, Copies, Filters, UsesNodes, UsesWays, Sorts, Merges, Appends, Applies, Selects, Simplifies}
use Rattle.osm_machine.proofs.MachineParts.{appends_part, applies_part, copies_part, filters_part, make_part, merges_part, nothing_part, read_part, selects_part, simplifies_part, sorts_part, uses_nodes_part, uses_ways_part}
use Rattle.osm_machine.proofs.ResultLemmas.{OnErr-weaker}
use Rattle.osm_machine.proofs.SumLemmas.{part_gives, part_stops_in_give}
use Rattle.osm_machine.proofs.kind.MachineKind.hand.Goals as goal

pub returns-in-Read-clause-gives : goal.returns-in-Read-clause-gives
returns-in-Read-clause-gives g c = rw c.in-Read.is (IfOk-weaker c.hand.result _ _
    (λ message gives. part_gives reading machines Read read_part c.args.port message _ _ gives) c.hand.ensures.gives)

pub returns-in-Read-clause-stops : goal.returns-in-Read-clause-stops
returns-in-Read-clause-stops g c = rw c.in-Read.is (OnErr-weaker c.hand.result
    (λ stops. part_stops_in_give reading machines Read read_part _ _ stops) c.hand.ensures.stops)

pub returns-in-Make-clause-gives : goal.returns-in-Make-clause-gives
returns-in-Make-clause-gives g c = rw c.in-Make.is (IfOk-weaker c.hand-in-Make.result _ _
    (λ message gives. part_gives making machines Make make_part c.args.port message _ _ gives) c.hand-in-Make.ensures.gives)

pub returns-in-Make-clause-stops : goal.returns-in-Make-clause-stops
returns-in-Make-clause-stops g c = rw c.in-Make.is (OnErr-weaker c.hand-in-Make.result
    (λ stops. part_stops_in_give making machines Make make_part _ _ stops) c.hand-in-Make.ensures.stops)

pub returns-in-Nothing-clause-gives : goal.returns-in-Nothing-clause-gives
returns-in-Nothing-clause-gives g c = rw c.in-Nothing.is (part_gives emptying machines Nothing nothing_part c.args.port c.hand-in-Nothing.result _ _
    c.hand-in-Nothing.ensures.gives)

pub returns-in-Copies-clause-gives : goal.returns-in-Copies-clause-gives
returns-in-Copies-clause-gives g c = rw c.in-Copies.is (IfOk-weaker c.hand-in-Copies.result _ _
    (λ message gives. part_gives copying machines Copies copies_part c.args.port message _ _ gives) c.hand-in-Copies.ensures.gives)

pub returns-in-Copies-clause-stops : goal.returns-in-Copies-clause-stops
returns-in-Copies-clause-stops g c = rw c.in-Copies.is (OnErr-weaker c.hand-in-Copies.result
    (λ stops. part_stops_in_give copying machines Copies copies_part _ _ stops) c.hand-in-Copies.ensures.stops)

pub returns-in-Filters-clause-gives : goal.returns-in-Filters-clause-gives
returns-in-Filters-clause-gives g c = rw c.in-Filters.is (part_gives (meanings_of filtering) machines Filters filters_part c.args.port c.hand-in-Filters.result _ _
    c.hand-in-Filters.ensures.gives)

pub returns-in-UsesNodes-clause-gives : goal.returns-in-UsesNodes-clause-gives
returns-in-UsesNodes-clause-gives g c = rw c.in-UsesNodes.is (part_gives (meanings_of keeping_used) machines UsesNodes uses_nodes_part c.args.port c.hand-in-UsesNodes.result _ _
    c.hand-in-UsesNodes.ensures.gives)

pub returns-in-UsesWays-clause-gives : goal.returns-in-UsesWays-clause-gives
returns-in-UsesWays-clause-gives g c = rw c.in-UsesWays.is (part_gives (meanings_of keeping_used) machines UsesWays uses_ways_part c.args.port c.hand-in-UsesWays.result _ _
    c.hand-in-UsesWays.ensures.gives)

pub returns-in-Sorts-clause-gives : goal.returns-in-Sorts-clause-gives
returns-in-Sorts-clause-gives g c = rw c.in-Sorts.is (part_gives (meanings_of sorting) machines Sorts sorts_part c.args.port c.hand-in-Sorts.result _ _
    c.hand-in-Sorts.ensures.gives)

pub returns-in-Merges-clause-gives : goal.returns-in-Merges-clause-gives
returns-in-Merges-clause-gives g c = rw c.in-Merges.is (part_gives (meanings_of_two merging) machines Merges merges_part c.args.port c.hand-in-Merges.result _ _
    c.hand-in-Merges.ensures.gives)

pub returns-in-Appends-clause-gives : goal.returns-in-Appends-clause-gives
returns-in-Appends-clause-gives g c = rw c.in-Appends.is (part_gives (meanings_of_two appending) machines Appends appends_part c.args.port c.hand-in-Appends.result _ _
    c.hand-in-Appends.ensures.gives)

pub returns-in-Applies-clause-gives : goal.returns-in-Applies-clause-gives
returns-in-Applies-clause-gives g c = rw c.in-Applies.is (part_gives (meanings_of_two applying) machines Applies applies_part c.args.port c.hand-in-Applies.result _ _
    c.hand-in-Applies.ensures.gives)

pub returns-in-Simplifies-clause-gives : goal.returns-in-Simplifies-clause-gives
returns-in-Simplifies-clause-gives g c = rw c.in-Simplifies.is (part_gives (meanings_of simplifying) machines Simplifies simplifies_part c.args.port c.hand-in-Simplifies.result _ _
    c.hand-in-Simplifies.ensures.gives)

pub returns-in-Selects-clause-gives : goal.returns-in-Selects-clause-gives
returns-in-Selects-clause-gives g c = rw c.in-Selects.is (part_gives (meanings_of selecting) machines Selects selects_part c.args.port c.hand-in-Selects.result _ _
    c.hand-in-Selects.ensures.gives)
