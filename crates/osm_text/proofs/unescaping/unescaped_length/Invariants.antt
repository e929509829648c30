use Rattle.std.proofs.Common.{◌≡◌, ◌≤◌, ◌+◌, length}
use Rattle.osm_text.proofs.UnescapedLengthLemmas.{text_length, longer}
use Rattle.osm_text.proofs.unescaping.unescaped_length.Given as goal

abbrev pub invariant-loop-plain : goal.invariant-loop-plain
invariant-loop-plain l = record {
  read : text_length l.bytes ≡ longer l.total (text_length l.rest);
  shorter : l.total + length l.rest ≤ length l.bytes;
}

abbrev pub decreases-loop-plain : goal.decreases-loop-plain
decreases-loop-plain l = length l.rest
