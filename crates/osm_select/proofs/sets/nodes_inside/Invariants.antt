use Rattle.std.proofs.Common.{◌≡◌, take}
use Rattle.osm_select.specs.IdSets.{among}
use Rattle.osm_select.specs.Parts.{nodes_inside}
use Rattle.osm_select.proofs.sets.nodes_inside.Given as goal

abbrev pub invariant-loop-place : goal.invariant-loop-place
invariant-loop-place l = among l.ids ≡ nodes_inside l.area (take l.place l.items)
