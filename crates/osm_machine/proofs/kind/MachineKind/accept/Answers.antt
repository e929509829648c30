use Rattle.osm_entity.specs.OneInput.{meanings_of}
use Rattle.osm_merge.specs.TwoInputs.{meanings_of_two}
use Rattle.osm_change.specs.Applying.{applying}
use Rattle.osm_change.specs.Simplifying.{simplifying}
use Rattle.osm_filter.specs.Filtering.{filtering}
use Rattle.osm_machine.specs.Copying.{copying}
use Rattle.osm_machine.specs.Emptying.{dropping}
use Rattle.osm_machine.specs.Writing.{writing}
use Rattle.osm_merge.specs.Append.{appending}
use Rattle.osm_merge.specs.Merging.{merging}
use Rattle.osm_select.specs.Selecting.{selecting}
use Rattle.osm_sort.specs.SortMachine.{sorting}
use Rattle.osm_used.specs.Using.{keeping_used}
use Rattle.osm_machine.specs.MachineKinds.{machines}
use Rattle.osm_machine.specs.declared.kind.MachineKind.TheVariants.{Write, Drops, Copies, Filters, UsesNodes, UsesWays, Sorts, Merges, Appends, Applies, Selects, Simplifies}
use Rattle.osm_machine.proofs.MachineParts.{appends_part, applies_part, copies_part, drops_part, filters_part, merges_part, selects_part, simplifies_part, sorts_part, uses_nodes_part, uses_ways_part, write_part}
use Rattle.osm_machine.proofs.ResultLemmas.{OnErr-weaker, OnOk-always, OnOk-weaker}
use Rattle.osm_machine.proofs.SumLemmas.{part_stops_in_take, part_takes}
use Rattle.osm_machine.proofs.kind.MachineKind.accept.Goals as goal

pub returns-in-Write-clause-takes : goal.returns-in-Write-clause-takes
returns-in-Write-clause-takes g c = rw c.in-Write.is (OnOk-weaker c.accept.result
    (λ takes. part_takes writing machines Write write_part c.args.port c.args.message _ _ takes) c.accept.ensures.takes)

pub returns-in-Write-clause-stops : goal.returns-in-Write-clause-stops
returns-in-Write-clause-stops g c = rw c.in-Write.is (OnErr-weaker c.accept.result
    (λ stops. part_stops_in_take writing machines Write write_part c.args.port c.args.message _ _ stops) c.accept.ensures.stops)

pub returns-in-Drops-clause-takes : goal.returns-in-Drops-clause-takes
returns-in-Drops-clause-takes g c = rw c.in-Drops.is (part_takes dropping machines Drops drops_part c.args.port c.args.message _ _
    c.accept-in-Drops.ensures.takes)

pub returns-in-Copies-clause-takes : goal.returns-in-Copies-clause-takes
returns-in-Copies-clause-takes g c = rw c.in-Copies.is (part_takes copying machines Copies copies_part c.args.port c.args.message _ _
    c.accept-in-Copies.ensures.takes)

pub returns-in-Filters-clause-takes : goal.returns-in-Filters-clause-takes
returns-in-Filters-clause-takes g c = rw c.in-Filters.is (OnOk-always c.accept-in-Filters.result
    (part_takes (meanings_of filtering) machines Filters filters_part c.args.port c.args.message _ _ c.accept-in-Filters.ensures.takes))

pub returns-in-UsesNodes-clause-takes : goal.returns-in-UsesNodes-clause-takes
returns-in-UsesNodes-clause-takes g c = rw c.in-UsesNodes.is (OnOk-weaker c.accept-in-UsesNodes.result
    (λ takes. part_takes (meanings_of keeping_used) machines UsesNodes uses_nodes_part c.args.port c.args.message _ _ takes) c.accept-in-UsesNodes.ensures.takes)

pub returns-in-UsesNodes-clause-stops : goal.returns-in-UsesNodes-clause-stops
returns-in-UsesNodes-clause-stops g c = rw c.in-UsesNodes.is (OnErr-weaker c.accept-in-UsesNodes.result
    (λ stops. part_stops_in_take (meanings_of keeping_used) machines UsesNodes uses_nodes_part c.args.port c.args.message _ _ stops) c.accept-in-UsesNodes.ensures.stops)

pub returns-in-UsesWays-clause-takes : goal.returns-in-UsesWays-clause-takes
returns-in-UsesWays-clause-takes g c = rw c.in-UsesWays.is (OnOk-weaker c.accept-in-UsesWays.result
    (λ takes. part_takes (meanings_of keeping_used) machines UsesWays uses_ways_part c.args.port c.args.message _ _ takes) c.accept-in-UsesWays.ensures.takes)

pub returns-in-UsesWays-clause-stops : goal.returns-in-UsesWays-clause-stops
returns-in-UsesWays-clause-stops g c = rw c.in-UsesWays.is (OnErr-weaker c.accept-in-UsesWays.result
    (λ stops. part_stops_in_take (meanings_of keeping_used) machines UsesWays uses_ways_part c.args.port c.args.message _ _ stops) c.accept-in-UsesWays.ensures.stops)

pub returns-in-Sorts-clause-takes : goal.returns-in-Sorts-clause-takes
returns-in-Sorts-clause-takes g c = rw c.in-Sorts.is (OnOk-weaker c.accept-in-Sorts.result
    (λ takes. part_takes (meanings_of sorting) machines Sorts sorts_part c.args.port c.args.message _ _ takes) c.accept-in-Sorts.ensures.takes)

pub returns-in-Sorts-clause-stops : goal.returns-in-Sorts-clause-stops
returns-in-Sorts-clause-stops g c = rw c.in-Sorts.is (OnErr-weaker c.accept-in-Sorts.result
    (λ stops. part_stops_in_take (meanings_of sorting) machines Sorts sorts_part c.args.port c.args.message _ _ stops) c.accept-in-Sorts.ensures.stops)

pub returns-in-Merges-clause-takes : goal.returns-in-Merges-clause-takes
returns-in-Merges-clause-takes g c = rw c.in-Merges.is (OnOk-always c.accept-in-Merges.result
    (part_takes (meanings_of_two merging) machines Merges merges_part c.args.port c.args.message _ _ c.accept-in-Merges.ensures.takes))

pub returns-in-Appends-clause-takes : goal.returns-in-Appends-clause-takes
returns-in-Appends-clause-takes g c = rw c.in-Appends.is (OnOk-always c.accept-in-Appends.result
    (part_takes (meanings_of_two appending) machines Appends appends_part c.args.port c.args.message _ _ c.accept-in-Appends.ensures.takes))

pub returns-in-Applies-clause-takes : goal.returns-in-Applies-clause-takes
returns-in-Applies-clause-takes g c = rw c.in-Applies.is (OnOk-always c.accept-in-Applies.result
    (part_takes (meanings_of_two applying) machines Applies applies_part c.args.port c.args.message _ _ c.accept-in-Applies.ensures.takes))

pub returns-in-Simplifies-clause-takes : goal.returns-in-Simplifies-clause-takes
returns-in-Simplifies-clause-takes g c = rw c.in-Simplifies.is (OnOk-weaker c.accept-in-Simplifies.result
    (λ takes. part_takes (meanings_of simplifying) machines Simplifies simplifies_part c.args.port c.args.message _ _ takes) c.accept-in-Simplifies.ensures.takes)

pub returns-in-Simplifies-clause-stops : goal.returns-in-Simplifies-clause-stops
returns-in-Simplifies-clause-stops g c = rw c.in-Simplifies.is (OnErr-weaker c.accept-in-Simplifies.result
    (λ stops. part_stops_in_take (meanings_of simplifying) machines Simplifies simplifies_part c.args.port c.args.message _ _ stops) c.accept-in-Simplifies.ensures.stops)

pub returns-in-Selects-clause-takes : goal.returns-in-Selects-clause-takes
returns-in-Selects-clause-takes g c = rw c.in-Selects.is (OnOk-weaker c.accept-in-Selects.result
    (λ takes. part_takes (meanings_of selecting) machines Selects selects_part c.args.port c.args.message _ _ takes) c.accept-in-Selects.ensures.takes)

pub returns-in-Selects-clause-stops : goal.returns-in-Selects-clause-stops
returns-in-Selects-clause-stops g c = rw c.in-Selects.is (OnErr-weaker c.accept-in-Selects.result
    (λ stops. part_stops_in_take (meanings_of selecting) machines Selects selects_part c.args.port c.args.message _ _ stops) c.accept-in-Selects.ensures.stops)
