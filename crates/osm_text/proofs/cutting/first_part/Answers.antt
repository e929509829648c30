use Rattle.std.proofs.Common.{◌≡◌, ◌-◌, ◌+◌, ◌∷◌, ℕ, Bool, false, List, length, take, drop, [], None, Some, arith, nat_lt}
use Rattle.std.specs.List.{position, position_or_len, slice_split}
use Rattle.std.proofs.lemmas.Bool.{ltb-true, ltb-false}
use Rattle.std.proofs.lemmas.List.{take_rest}
use Rattle.std.proofs.lemmas.List.Elements.{All-from_get_or}
use Rattle.std.proofs.lemmas.List.Sums.{fails_before_first}
use Rattle.std.proofs.lemmas.List.Splits.{slice_split_first, slice_split_none}
use Rattle.osm_text.proofs.KeptLemmas.{kept_some, kept_none}
use Rattle.osm_text.proofs.cutting.first_part.Goals as goal

-- a cut at the position takes off the first part
split-position : (test : ℕ → Bool) (bytes : List ℕ) (k : ℕ) → Some k ≡ position test bytes →
    slice_split test bytes ≡ take k bytes ∷ slice_split test (take (length bytes - (k + 1)) (drop (k + 1) bytes))
split-position test bytes k is =
    let kept = kept_some (nat_lt (position_or_len test bytes) (length bytes)) (position_or_len test bytes) k is in
    let within = ltb-true (position_or_len test bytes) (length bytes) kept.1 in
    rw (kept.0, take_rest) (slice_split_first test bytes 0 within)

-- without a position the bytes are their only part
split-no_position : (test : ℕ → Bool) (bytes : List ℕ) → None ≡ position test bytes →
    slice_split test bytes ≡ bytes ∷ []
split-no_position test bytes is =
    let at_end = ltb-false (position_or_len test bytes) (length bytes)
    (kept_none (nat_lt (position_or_len test bytes) (length bytes)) (position_or_len test bytes) is) in
    slice_split_none test bytes
    (All-from_get_or (λ b. test b ≡ false) bytes 0 (λ i below. fails_before_first test bytes i 0 (omega arith)))

pub returns-in-Some-clause-some : goal.returns-in-Some-clause-some
returns-in-Some-clause-some c = split-position _ c.args.bytes.now c.in-Some.at c.in-Some.ensures

pub returns-in-None-clause-none : goal.returns-in-None-clause-none
returns-in-None-clause-none c = split-no_position _ c.args.bytes.now c.in-None.ensures
