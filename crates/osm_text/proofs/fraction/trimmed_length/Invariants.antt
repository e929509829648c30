use Rattle.std.proofs.Common.{◌≡◌, ◌≤◌, ◌-◌, ◌==◌, length, take}
use Rattle.std.specs.List.{suffix_len}
use Rattle.osm_text.proofs.fraction.trimmed_length.Given as goal

abbrev pub invariant-loop-count : goal.invariant-loop-count
invariant-loop-count l = record {
  within : l.count ≤ length l.digits;
  zeros : length l.digits - suffix_len (λ c. c == 48) l.digits ≡
      l.count - suffix_len (λ c. c == 48) (take l.count l.digits);
}

abbrev pub decreases-loop-count : goal.decreases-loop-count
decreases-loop-count l = l.count
