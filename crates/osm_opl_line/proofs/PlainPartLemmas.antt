-- Parts before a comma in which there is no %.
use Rattle.std.proofs.Common.{◌≡◌, ◌∙◌, ◌<◌, ◌+◌, ◌-◌, ◌∷◌, [], ℕ, Bool, true, false, List, length, take, drop, get_or, nat_lt, None, Some, Ok, refl, arith, ap}
use Rattle.std.specs.Prelude.{All, ◌==◌, ◌||◌}
use Rattle.std.specs.List.{position, position_or_len, before_first, after_first, slice_split}
use Rattle.std.proofs.lemmas.Bool.{eq-eqb, ltb-false}
use Rattle.std.proofs.lemmas.Grind.{common_steps}
use Rattle.std.proofs.lemmas.List.{take_rest}
use Rattle.std.proofs.lemmas.List.Elements.{All-from_get_or, All-weaker}
use Rattle.std.proofs.lemmas.List.Splits.{slice_split_at, slice_split_none}
use Rattle.std.proofs.lemmas.List.Sums.{fails_before_first, split_at_first}
use Rattle.osm_text.specs.Scanning.{is_one_of_two}
use Rattle.osm_text.proofs.KeptLemmas.{kept_none}
use Rattle.osm_opl_line.specs.Contents.{HasNoEscape, text_in}
use Rattle.osm_opl_line.proofs.PartLemmas.{position-some}

-- of two tests that fail together each fails
none-of_two : (x y : Bool) → (x || y) ≡ false → (x ≡ false) × (y ≡ false)
none-of_two true y is = cc
none-of_two false y is = (refl, is)

-- what stands before the first byte that passes fails
before-fails : (test : ℕ → Bool) (bytes : List ℕ) → position_or_len test bytes < length bytes →
    All (λ b. test b ≡ false) (before_first test bytes)
before-fails test bytes within =
    All-from_get_or (λ b. test b ≡ false) (before_first test bytes) 0
    (λ i below.
    let front : i < position_or_len test bytes = grind (arith, common_steps) in
    let same : get_or (take (position_or_len test bytes) bytes) i 0 ≡ get_or bytes i 0 = grind (arith, common_steps) in
    rw same (fails_before_first test bytes i 0 front))

-- there is no % before the first comma or %
pub plain-part : (bytes : List ℕ) (at : ℕ) → Some at ≡ position (is_one_of_two 44 37) bytes →
    HasNoEscape (take at bytes)
plain-part bytes at is =
    let found = position-some (is_one_of_two 44 37) bytes at is in
    let all = before-fails (is_one_of_two 44 37) bytes found.1 in
    rw (← found.0)
    (All-weaker (λ b. is_one_of_two 44 37 b ≡ false) (λ b. (b == 37) ≡ false)
    (λ b neither. (none-of_two (b == 44) (b == 37) neither).1) (before_first (is_one_of_two 44 37) bytes) all)

-- where that is a comma, the bytes before it are the first part
pub split-part : (bytes : List ℕ) (at : ℕ) → Some at ≡ position (is_one_of_two 44 37) bytes → get_or bytes at 0 ≡ 44 →
    slice_split (λ b. b == 44) bytes
    ≡ take at bytes ∷ slice_split (λ b. b == 44) (take (length bytes - (at + 1)) (drop (at + 1) bytes))
split-part bytes at is comma =
    let found = position-some (is_one_of_two 44 37) bytes at is in
    let all = before-fails (is_one_of_two 44 37) bytes found.1 in
    let front : All (λ b. (b == 44) ≡ false) (before_first (is_one_of_two 44 37) bytes) =
    All-weaker (λ b. is_one_of_two 44 37 b ≡ false) (λ b. (b == 44) ≡ false)
    (λ b neither. (none-of_two (b == 44) (b == 37) neither).0) (before_first (is_one_of_two 44 37) bytes) all in
    let here : get_or bytes (position_or_len (is_one_of_two 44 37) bytes) 0 ≡ 44 = rw found.0 comma in
    rw (← found.0, take_rest)
    (ap (slice_split (λ b. b == 44)) (split_at_first (is_one_of_two 44 37) bytes 0 found.1)
    ∙ slice_split_at (λ b. b == 44) (before_first (is_one_of_two 44 37) bytes) _
    (after_first (is_one_of_two 44 37) bytes) front (eq-eqb _ 44 here))

-- where there is neither, the bytes are one part
pub split-none : (bytes : List ℕ) → None ≡ position (is_one_of_two 44 37) bytes →
    slice_split (λ b. b == 44) bytes ≡ bytes ∷ []
split-none bytes is =
    let at_end = ltb-false (position_or_len (is_one_of_two 44 37) bytes) (length bytes)
    (kept_none (nat_lt (position_or_len (is_one_of_two 44 37) bytes) (length bytes))
    (position_or_len (is_one_of_two 44 37) bytes) is) in
    let all : All (λ b. is_one_of_two 44 37 b ≡ false) bytes =
    All-from_get_or (λ b. is_one_of_two 44 37 b ≡ false) bytes 0
    (λ i below. fails_before_first (is_one_of_two 44 37) bytes i 0 (omega arith)) in
    slice_split_none (λ b. b == 44) bytes
    (All-weaker (λ b. is_one_of_two 44 37 b ≡ false) (λ b. (b == 44) ≡ false)
    (λ b neither. (none-of_two (b == 44) (b == 37) neither).0) bytes all)

-- a text without % says itself
pub text_in-plain : (text : List ℕ) → HasNoEscape text → text_in text ≡ Ok text
text_in-plain text plain = rw (slice_split_none (λ b. b == 37) text plain) refl
