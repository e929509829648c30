-- Escaped texts: the escape of one byte, and the first reserved byte of a text.
use Rattle.std.proofs.Common.{◌≡◌, ◌<◌, ◌≤◌, ◌+◌, ◌-◌, ◌/◌, ◌%◌, ◌∷◌, ◌++◌, [], ℕ, suc, true, false, List, length, take, drop, get_or, None, Some, refl, arith, append_assoc, add-one, nat_lt}
use Rattle.std.specs.Fmt.{digit_glyph}
use Rattle.std.specs.List.{position, position_or_len}
use Rattle.std.proofs.Math.Seq.{drop-cons}
use Rattle.std.proofs.lemmas.Bool.{ltb-true, ltb-false}
use Rattle.std.proofs.lemmas.Fmt.{hex_one_digit, hex_two_digits}
use Rattle.std.proofs.lemmas.Grind.{common_steps, flat_map-append}
use Rattle.std.proofs.lemmas.List.{take_rest, take-append-drop, length-take}
use Rattle.std.proofs.lemmas.List.Sums.{fails_before_first, passes_at_first}
use Rattle.osm_text.specs.Escapes.{escaped, escaped_byte, hex_escape, is_reserved}
use Rattle.osm_text.proofs.KeptLemmas.{kept_some, kept_none}

-- a number below 16 has one hexadecimal digit
pub hex_escape-one : (n : ℕ) → n < 16 → hex_escape n ≡ 37 ∷ digit_glyph false n ∷ 37 ∷ []
hex_escape-one n low = rw (hex_one_digit false n low)

-- a number from 16 to 255 has two
pub hex_escape-two : (n : ℕ) → 16 ≤ n → n < 256 →
    hex_escape n ≡ 37 ∷ digit_glyph false (n / 16) ∷ digit_glyph false (n % 16) ∷ 37 ∷ []
hex_escape-two n high low = rw (hex_two_digits false n high low)

-- bytes that are not reserved are written as they are
pub escaped-plain : (bytes : List ℕ) → ((i : ℕ) → i < length bytes → is_reserved (get_or bytes i 0) ≡ false) →
    escaped bytes ≡ bytes
escaped-plain [] plain = refl
escaped-plain (b ∷ bytes) plain =
    let here : is_reserved b ≡ false = plain 0 (omega arith) in
    let more = escaped-plain bytes (λ i below. plain (suc i) (omega arith)) in
    rw (here, more)

-- a text up to a reserved byte, that byte, and the rest
pub escaped-at : (bytes : List ℕ) (k : ℕ) → k < length bytes →
    ((i : ℕ) → i < k → is_reserved (get_or bytes i 0) ≡ false) → is_reserved (get_or bytes k 0) ≡ true →
    escaped bytes ≡ take k bytes ++ hex_escape (get_or bytes k 0) ++ escaped (drop (k + 1) bytes)
escaped-at bytes k within before here =
    let plain : escaped (take k bytes) ≡ take k bytes =
    escaped-plain (take k bytes) (λ i below.
    let low : i < k = omega (arith, length-take k bytes) in
    let same : get_or (take k bytes) i 0 ≡ get_or bytes i 0 = grind (arith, common_steps) in
    rw same (before i low)) in
    let reserved : escaped (drop k bytes) ≡ hex_escape (get_or bytes k 0) ++ escaped (drop (k + 1) bytes) =
    rw (drop-cons bytes k 0, here, add-one) in
    let whole : escaped bytes ≡ escaped (take k bytes) ++ escaped (drop k bytes) =
    rw (take-append-drop k bytes) at (flat_map-append escaped_byte (take k bytes) (drop k bytes)) in
    simp append_assoc (simp append_assoc at (rw (plain, reserved) at whole))

-- the position of the first reserved byte parts a text
pub escaped-position : (bytes : List ℕ) (k : ℕ) → Some k ≡ position is_reserved bytes →
    escaped bytes ≡
    take k bytes ++ hex_escape (get_or bytes k 0) ++ escaped (take (length bytes - (k + 1)) (drop (k + 1) bytes))
escaped-position bytes k is =
    let kept = kept_some (nat_lt (position_or_len is_reserved bytes) (length bytes)) (position_or_len is_reserved bytes)
    k is in
    let within = ltb-true (position_or_len is_reserved bytes) (length bytes) kept.1 in
    rw (kept.0, take_rest)
    (escaped-at bytes (position_or_len is_reserved bytes) within
    (λ i below. fails_before_first is_reserved bytes i 0 below) (passes_at_first is_reserved bytes 0 within))

-- a text without a reserved byte is written as it is
pub escaped-no_position : (bytes : List ℕ) → None ≡ position is_reserved bytes → escaped bytes ≡ bytes
escaped-no_position bytes is =
    let at_end = ltb-false (position_or_len is_reserved bytes) (length bytes)
    (kept_none (nat_lt (position_or_len is_reserved bytes) (length bytes)) (position_or_len is_reserved bytes) is) in
    escaped-plain bytes (λ i below. fails_before_first is_reserved bytes i 0 (omega arith))
