use Rattle.std.proofs.Common.{◌≡◌, take}
use Rattle.osm_select.specs.Held.{is_drawn}
use Rattle.osm_select.specs.IdSets.{among}
use Rattle.osm_select.specs.Kept.{sets_of}
use Rattle.osm_select.specs.Links.{linked, links_in}
use Rattle.osm_select.specs.Parts.{ids_where}
use Rattle.osm_select.proofs.sets.draw.Given as goal

abbrev pub invariant-loop-place : goal.invariant-loop-place
invariant-loop-place l = record {
  marked : among l.marked ≡ ids_where (is_drawn (sets_of l.keys)) (take l.place l.items);
  queue : among l.queue ≡ ids_where (is_drawn (sets_of l.keys)) (take l.place l.items);
  links : linked l.links ≡ links_in (take l.place l.items);
}
