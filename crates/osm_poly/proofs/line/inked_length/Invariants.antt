use Rattle.std.proofs.Common.{◌≡◌, ◌≤◌, ◌-◌, length, take}
use Rattle.std.specs.List.{suffix_len}
use Rattle.osm_poly.specs.Lines.{is_blank_byte}
use Rattle.osm_poly.proofs.line.inked_length.Given as goal

-- what was passed so far is blank
abbrev pub invariant-loop-end : goal.invariant-loop-end
invariant-loop-end l = record {
  within : l.end ≤ length l.line;
  blank : length l.line - suffix_len is_blank_byte l.line ≡ l.end - suffix_len is_blank_byte (take l.end l.line);
}

abbrev pub decreases-loop-end : goal.decreases-loop-end
decreases-loop-end l = l.end
