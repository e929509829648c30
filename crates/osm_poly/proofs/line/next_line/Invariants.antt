use Rattle.std.proofs.Common.{◌≡◌, ◌+◌, ◌≤◌, length}
use Rattle.osm_poly.specs.Lines.{poly_lines, said_from}
use Rattle.osm_poly.proofs.line.next_line.Given as goal

-- the lines that were passed are empty
abbrev pub invariant-loop-line : goal.invariant-loop-line
invariant-loop-line l = record {
  said : said_from l.first l.bytes ≡ said_from l.number l.rest;
  same : l.first + length (poly_lines l.bytes) ≡ l.number + length (poly_lines l.rest);
  fits : l.number + length l.rest ≤ l.first + length l.bytes;
  shorter : length l.rest ≤ length l.bytes;
}

abbrev pub decreases-loop-line : goal.decreases-loop-line
decreases-loop-line l = length l.rest
