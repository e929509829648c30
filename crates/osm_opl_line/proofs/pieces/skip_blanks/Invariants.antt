use Rattle.std.proofs.Common.{◌≡◌, ◌≤◌, ◌-◌, drop, length}
use Rattle.std.specs.Str.{IsUtf8}
use Rattle.osm_opl_line.specs.Fields.{pieces}
use Rattle.osm_opl_line.proofs.pieces.skip_blanks.Given as goal

abbrev pub invariant-loop-at : goal.invariant-loop-at
invariant-loop-at l = record {
  same : pieces (drop l.at l.bytes) ≡ pieces l.bytes;
  within : l.at ≤ length l.bytes;
  utf8 : IsUtf8 l.bytes → IsUtf8 (drop l.at l.bytes);
}

abbrev pub decreases-loop-at : goal.decreases-loop-at
decreases-loop-at l = length l.bytes - l.at
