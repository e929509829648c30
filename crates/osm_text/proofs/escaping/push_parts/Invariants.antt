use Rattle.std.proofs.Common.{◌≡◌, ◌++◌, length, take}
use Rattle.osm_text.specs.Escapes.{escaped}
use Rattle.osm_text.proofs.escaping.push_parts.Given as goal

abbrev pub invariant-loop-plain : goal.invariant-loop-plain
invariant-loop-plain l = record {
  written : l.out ++ escaped l.rest ≡ l.fn.out ++ escaped l.bytes;
  kept : take (length l.fn.out) l.out ≡ l.fn.out;
}

abbrev pub decreases-loop-plain : goal.decreases-loop-plain
decreases-loop-plain l = length l.rest
