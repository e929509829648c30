use Rattle.std.proofs.Common.{◌≡◌, ◌+◌, ◌≤◌, length}
use Rattle.osm_poly.specs.Lines.{poly_lines}
use Rattle.osm_poly.specs.Sections.{parts_from, poly_sections}
use Rattle.osm_poly.proofs.PartLemmas.{behind}
use Rattle.osm_poly.proofs.section.read_sections.Given as goal

-- the sections are those so far, and those of the lines that are left
abbrev pub invariant-loop-step : goal.invariant-loop-step
invariant-loop-step l = record {
  read : poly_sections (l.first + length (poly_lines l.bytes)) (parts_from l.first l.bytes) ≡
      behind l.sections (poly_sections (l.at + length (poly_lines l.rest)) (parts_from l.at l.rest));
  same : l.first + length (poly_lines l.bytes) ≡ l.at + length (poly_lines l.rest);
  fits : l.at + length l.rest ≤ l.first + length l.bytes;
}

abbrev pub decreases-loop-step : goal.decreases-loop-step
decreases-loop-step l = length l.rest
