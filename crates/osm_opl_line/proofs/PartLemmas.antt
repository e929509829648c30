-- Parts that are cut at a byte.
use Rattle.std.proofs.Common.{◌≡◌, ◌<◌, ◌+◌, ◌-◌, ℕ, Bool, true, false, List, length, take, drop, get_or, None, Some, arith, sym, nat_lt}
use Rattle.std.specs.List.{position, position_or_len, before_first, after_first, list_any}
use Rattle.std.specs.Str.{IsUtf8}
use Rattle.std.proofs.lemmas.Bool.{ltb-true, ltb-false}
use Rattle.std.proofs.lemmas.List.{take_rest}
use Rattle.std.proofs.lemmas.List.Elements.{All-from_get_or}
use Rattle.std.proofs.lemmas.List.Folds.{list_any_at, list_any_none}
use Rattle.std.proofs.lemmas.List.Sums.{fails_before_first, passes_at_first, split_at_first}
use Rattle.osm_text.proofs.KeptLemmas.{kept_some, kept_none}
use Rattle.osm_text.proofs.SplitLemmas.{IsUtf8-around}

-- a place that was found is the first that passes, and lies within the bytes
pub position-some : (test : ℕ → Bool) (bytes : List ℕ) (at : ℕ) → Some at ≡ position test bytes →
    (position_or_len test bytes ≡ at) × (position_or_len test bytes < length bytes)
position-some test bytes at is =
    let found = kept_some (nat_lt (position_or_len test bytes) (length bytes)) (position_or_len test bytes) at is in
    (sym found.0, ltb-true (position_or_len test bytes) (length bytes) found.1)

-- where a place was found, some byte passes
pub list_any-found : (test : ℕ → Bool) (bytes : List ℕ) (at : ℕ) → Some at ≡ position test bytes →
    list_any test bytes ≡ true
list_any-found test bytes at is =
    let within = (position-some test bytes at is).1 in
    list_any_at test bytes (position_or_len test bytes) 0 within (passes_at_first test bytes 0 within)

-- where none was found, no byte passes
pub list_any-not_found : (test : ℕ → Bool) (bytes : List ℕ) → None ≡ position test bytes →
    list_any test bytes ≡ false
list_any-not_found test bytes is =
    let at_end = ltb-false (position_or_len test bytes) (length bytes)
    (kept_none (nat_lt (position_or_len test bytes) (length bytes)) (position_or_len test bytes) is) in
    list_any_none test bytes
    (All-from_get_or (λ b. test b ≡ false) bytes 0 (λ i below. fails_before_first test bytes i 0 (omega arith)))

-- UTF-8 that is cut at the first of an ASCII character is UTF-8 on both sides
pub IsUtf8-cut : (test : ℕ → Bool) (bytes : List ℕ) (at : ℕ) → ((b : ℕ) → test b ≡ true → b < 128) →
    Some at ≡ position test bytes → IsUtf8 bytes →
    IsUtf8 (take at bytes) × IsUtf8 (take (length bytes - (at + 1)) (drop (at + 1) bytes))
IsUtf8-cut test bytes at ascii is whole =
    let found = position-some test bytes at is in
    let here = get_or bytes (position_or_len test bytes) 0 in
    let joined = split_at_first test bytes 0 found.1 in
    rw (← found.0, take_rest)
    (IsUtf8-around (before_first test bytes) here (after_first test bytes)
    (ascii here (passes_at_first test bytes 0 found.1)) (rw joined at whole))
