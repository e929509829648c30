use Rattle.std.proofs.Common.{◌≡◌, take}
use Rattle.osm_select.specs.IdSets.{among}
use Rattle.osm_select.specs.Parts.{ids_where, touches}
use Rattle.osm_select.proofs.sets.touching_ways.Given as goal

abbrev pub invariant-loop-place : goal.invariant-loop-place
invariant-loop-place l =
    among l.ids ≡ ids_where (λ item. touches (among l.nodes) item.entity.body) (take l.place l.items)
