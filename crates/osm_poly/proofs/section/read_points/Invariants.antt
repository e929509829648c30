use Rattle.std.proofs.Common.{◌≡◌, ◌+◌, ◌≤◌, IsTrue, length, drop}
use Rattle.std.specs.List.{list_all}
use Rattle.osm_area.specs.Edges.{is_ring_place}
use Rattle.osm_poly.specs.Lines.{poly_lines}
use Rattle.osm_poly.specs.Sections.{parts_from, ring_part}
use Rattle.osm_poly.proofs.PartLemmas.{behind}
use Rattle.osm_poly.proofs.section.read_points.Given as goal

-- the ring is the places so far, and those of the lines that are left
abbrev pub invariant-loop-step : goal.invariant-loop-step
invariant-loop-step l = record {
  ring : IsTrue (list_all is_ring_place l.corners);
  read : ring_part (l.first + length (poly_lines l.bytes)) (parts_from l.first l.bytes) ≡
      behind l.corners (ring_part (l.at + length (poly_lines l.rest)) (parts_from l.at l.rest));
  others : drop 1 (parts_from l.first l.bytes) ≡ drop 1 (parts_from l.at l.rest);
  same : l.first + length (poly_lines l.bytes) ≡ l.at + length (poly_lines l.rest);
  fits : l.at + length l.rest ≤ l.first + length l.bytes;
  shorter : length l.rest ≤ length l.bytes;
}

abbrev pub decreases-loop-step : goal.decreases-loop-step
decreases-loop-step l = length l.rest
