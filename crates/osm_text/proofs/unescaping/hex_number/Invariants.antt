use Rattle.osm_text.proofs.UnescapeLemmas.{IsHexBefore}
use Rattle.osm_text.proofs.unescaping.hex_number.Given as goal

abbrev pub invariant-loop-byte : goal.invariant-loop-byte
invariant-loop-byte l = IsHexBefore l.bytes l.byte-index l.number
