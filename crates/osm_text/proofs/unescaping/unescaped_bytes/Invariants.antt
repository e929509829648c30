use Rattle.std.proofs.Common.{◌≡◌, Some, length}
use Rattle.std.specs.Fmt.{◌++?◌}
use Rattle.std.specs.Str.{IsUtf8}
use Rattle.osm_text.specs.Escapes.{unescaped}
use Rattle.osm_text.proofs.unescaping.unescaped_bytes.Given as goal

abbrev pub invariant-loop-plain : goal.invariant-loop-plain
invariant-loop-plain l = record {
  read : unescaped l.bytes ≡ Some l.out ++? unescaped l.rest;
  text : IsUtf8 l.out;
  more : IsUtf8 l.rest;
}

abbrev pub decreases-loop-plain : goal.decreases-loop-plain
decreases-loop-plain l = length l.rest
