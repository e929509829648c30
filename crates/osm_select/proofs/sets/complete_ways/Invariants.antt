use Rattle.std.proofs.Common.{◌≡◌, take}
use Rattle.std.specs.List.{list_any}
use Rattle.osm_select.specs.Held.{completes}
use Rattle.osm_select.specs.IdSets.{among, either}
use Rattle.osm_select.proofs.sets.complete_ways.Given as goal

abbrev pub invariant-loop-place : goal.invariant-loop-place
invariant-loop-place l = among l.nodes
    ≡ either (among l.initial.nodes) (λ id. list_any (completes (among l.ways) id) (take l.place l.items))
