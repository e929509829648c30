-- Written whole numbers read back, and the digits of a fraction.
use Rattle.std.proofs.Common.{◌≡◌, ◌<◌, ◌≤◌, ◌+◌, ◌-◌, ◌*◌, ◌^◌, ◌==◌, ◌∷◌, ◌++◌, ℕ, ℤ, pos, negsuc, suc, zero, Bool, true, false, List, [], length, take, get_or, replicate, reverse, decimal, Some, refl, arith, ap, sym, ◌∙◌}
use Rattle.std.specs.Prelude.{FitsSigned}
use Rattle.std.specs.Fmt.{signed_decimal}
use Rattle.std.specs.Int.{w64}
use Rattle.std.specs.Char.{is_digit}
use Rattle.std.specs.List.{list_all, suffix_len}
use Rattle.std.specs.Str.Parse.{digits_value}
use Rattle.std.proofs.Math.Nat.{pow-suc}
use Rattle.std.proofs.lemmas.Bool.{and_parts, lt-ltb, le-leb, eqb-true}
use Rattle.std.proofs.lemmas.Bool.Decides.{nat_tests}
use Rattle.std.proofs.lemmas.Fmt.{digits_decimal, digits_value-decimal, decimal_nonempty}
use Rattle.std.proofs.lemmas.Int.Digits.{digits_value_more}
use Rattle.std.proofs.lemmas.List.{append-nil, get_or-reverse, take_all, length-take-le}
use Rattle.std.proofs.lemmas.List.Elements.{All-take}
use Rattle.std.proofs.lemmas.List.Folds.{list_all-append}
use Rattle.std.proofs.lemmas.List.Sums.{AllPass-from_list_all, list_all-from_AllPass, prefix_len_passes, suffix_len-le-length}
use Rattle.osm_text.specs.Numbers.{are_digits, has_minus, nine_digits, signed, size_fits, trimmed, unsigned_part, whole}
use Rattle.osm_text.proofs.DigitsLemmas.{digits_model}
use Rattle.osm_text.proofs.FractionLemmas.{length-nine_digits}

-- what is written of a number are digits
decimal-digits : (n : ℕ) → n < 2 ^ 64 → list_all (λ c. is_digit c 10) (decimal n) ≡ true
decimal-digits n small = digits_decimal digits_model n small

-- and their value is the number
decimal-value : (n : ℕ) → n < 2 ^ 64 → digits_value 10 (decimal n) ≡ n
decimal-value n small = digits_value-decimal digits_model n small

-- one or more digits are digits
are_digits-from : (most : ℕ) (bytes : List ℕ) → 0 < length bytes → length bytes ≤ most →
    list_all (λ c. is_digit c 10) bytes ≡ true → are_digits most bytes ≡ true
are_digits-from most bytes some within digits =
    rw (lt-ltb 0 (length bytes) some, le-leb (length bytes) most within, digits)

-- a digit is no minus
pub digit-no_minus : (c : ℕ) → is_digit c 10 ≡ true → (c == 45) ≡ false
digit-no_minus c digit = grind (arith, nat_tests)

-- a text that begins with a digit has no minus
pub digits-no_minus : (digits rest : List ℕ) → 0 < length digits → list_all (λ c. is_digit c 10) digits ≡ true →
    has_minus (digits ++ rest) ≡ false
digits-no_minus [] rest some each = absurd (omega arith)
digits-no_minus (c ∷ cs) rest some each =
    let first : is_digit c 10 ≡ true = (and_parts (is_digit c 10) (list_all (λ c. is_digit c 10) cs) each).0 in
    digit-no_minus c first

-- a whole number from its sign and its digits
whole-at : (minus : Bool) (bytes digits : List ℕ) (n : ℕ) → has_minus bytes ≡ minus → unsigned_part bytes ≡ digits →
    are_digits (length bytes) digits ≡ true → digits_value 10 digits ≡ n → size_fits minus n ≡ true →
    whole bytes ≡ Some (signed minus n)
whole-at minus bytes digits n sign rest are value fits = rw (rest, are, sign, value, fits)

-- the text of a whole number reads back
pub whole-signed_decimal : (z : ℤ) → FitsSigned w64 z → whole (signed_decimal z) ≡ Some z
whole-signed_decimal (pos n) fits =
    let small : n < 2 ^ 63 = fits.sfits in
    let digits = decimal-digits n (omega arith) in
    let some = decimal_nonempty n (omega arith) in
    let sign : has_minus (decimal n) ≡ false = rw append-nil at (digits-no_minus (decimal n) [] some digits) in
    whole-at false (decimal n) (decimal n) n sign (rw sign)
    (are_digits-from (length (decimal n)) (decimal n) some (omega arith) digits) (decimal-value n (omega arith))
    (lt-ltb n (2 ^ 63) small)
whole-signed_decimal (negsuc n) fits =
    let small : n < 2 ^ 63 = fits.sfits in
    whole-at true (45 ∷ decimal (suc n)) (decimal (suc n)) (suc n) refl refl
    (are_digits-from (length (45 ∷ decimal (suc n))) (decimal (suc n)) (decimal_nonempty (suc n) (omega arith))
    (omega arith) (decimal-digits (suc n) (omega arith)))
    (decimal-value (suc n) (omega arith)) (le-leb (suc n) (2 ^ 63) (omega arith))

-- zeros before digits add nothing
digits_value-zeros : (count : ℕ) (digits : List ℕ) →
    digits_value 10 (replicate count 48 ++ digits) ≡ digits_value 10 digits
digits_value-zeros zero digits = refl
digits_value-zeros (suc count) digits = digits_value-zeros count digits

-- nine digits are the number's
digits_value-nine : (n : ℕ) → n < 10 ^ 9 → digits_value 10 (nine_digits n) ≡ n
digits_value-nine n small = digits_value-zeros (9 - length (decimal n)) (decimal n) ∙ decimal-value n (omega arith)

-- zeros are digits
list_all-zeros : (count : ℕ) → list_all (λ c. is_digit c 10) (replicate count 48) ≡ true
list_all-zeros zero = refl
list_all-zeros (suc count) = list_all-zeros count

-- nine digits are digits
list_all-nine : (n : ℕ) → n < 10 ^ 9 → list_all (λ c. is_digit c 10) (nine_digits n) ≡ true
list_all-nine n small =
    rw (
      list_all-append (λ c. is_digit c 10) (replicate (9 - length (decimal n)) 48) (decimal n),
      list_all-zeros (9 - length (decimal n)),
      decimal-digits n (omega arith),
    )

-- a digit in the zeros at the end is one
suffix-zero : (digits : List ℕ) (k : ℕ) → k < suffix_len (λ c. c == 48) digits →
    get_or digits (length digits - 1 - k) 0 ≡ 48
suffix-zero digits k within =
    let bound = suffix_len-le-length (λ c. c == 48) digits in
    let passes = prefix_len_passes (λ c. c == 48) (reverse digits) k 0 within in
    let below : k < length digits = omega arith in
    eqb-true _ 48 (rw (get_or-reverse digits k 0 below) at passes)

-- a factor of ten moves from a value to its scale
scaled : (value scale : ℕ) → value * 10 * scale ≡ value * (scale * 10)
scaled value scale = omega arith

-- each zero at the end is a factor of ten
digits_value-suffix : (digits : List ℕ) (k : ℕ) → k ≤ suffix_len (λ c. c == 48) digits →
    digits_value 10 digits ≡ digits_value 10 (take (length digits - k) digits) * 10 ^ k
digits_value-suffix digits zero within = rw (take_all (length digits - 0) digits (omega arith)) (omega arith)
digits_value-suffix digits (suc k) within =
    let bound = suffix_len-le-length (λ c. c == 48) digits in
    let fewer = digits_value-suffix digits k (omega arith) in
    let place : length digits - k ≡ (length digits - suc k) + 1 = omega arith in
    let same : length digits - 1 - k ≡ length digits - suc k = omega arith in
    let last : get_or digits (length digits - suc k) 0 ≡ 48 = rw same at (suffix-zero digits k (omega arith)) in
    let more = digits_value_more 10 digits (length digits - suc k) (omega arith) in
    let added : digits_value 10 (take (length digits - k) digits) ≡
    digits_value 10 (take (length digits - suc k) digits) * 10 =
    rw place (more ∙ rw last (omega arith)) in
    rw pow-suc
    (fewer ∙ ap (λ v. v * 10 ^ k) added ∙ scaled (digits_value 10 (take (length digits - suc k) digits)) (10 ^ k))

-- the first digits of digits are digits
list_all-take : (count : ℕ) (digits : List ℕ) → list_all (λ c. is_digit c 10) digits ≡ true →
    list_all (λ c. is_digit c 10) (take count digits) ≡ true
list_all-take count digits each =
    list_all-from_AllPass (λ c. is_digit c 10) (take count digits)
    (All-take (λ c. is_digit c 10 ≡ true) count digits (AllPass-from_list_all (λ c. is_digit c 10) digits each))

-- how many of nine digits stand before the zeros at their end
length-trimmed : (n : ℕ) → n < 10 ^ 9 → length (trimmed (nine_digits n)) + suffix_len (λ c. c == 48) (nine_digits n) ≡ 9
length-trimmed n small =
    let nine = length-nine_digits n small in
    let bound = suffix_len-le-length (λ c. c == 48) (nine_digits n) in
    let kept = length-take-le (length (nine_digits n) - suffix_len (λ c. c == 48) (nine_digits n)) (nine_digits n)
    (omega arith) in
    omega arith

-- their value, by the place of the last, is the number
pub trimmed-value : (n : ℕ) → n < 10 ^ 9 →
    digits_value 10 (trimmed (nine_digits n)) * 10 ^ (9 - length (trimmed (nine_digits n))) ≡ n
trimmed-value n small =
    let kept = length-trimmed n small in
    let scale : 9 - length (trimmed (nine_digits n)) ≡ suffix_len (λ c. c == 48) (nine_digits n) = omega arith in
    let value = digits_value-suffix (nine_digits n) (suffix_len (λ c. c == 48) (nine_digits n)) (omega arith) in
    rw scale (sym value ∙ digits_value-nine n small)

-- what has a value above 0 has a digit
some-from_value : (digits : List ℕ) (scale n : ℕ) → digits_value 10 digits * scale ≡ n → 0 < n → 0 < length digits
some-from_value [] scale n is some = absurd (omega arith)
some-from_value (c ∷ cs) scale n is some = omega arith

-- the digits of a fraction above 0, without the zeros at their end, are one to nine digits
pub trimmed-digits : (n : ℕ) → 0 < n → n < 10 ^ 9 → are_digits 9 (trimmed (nine_digits n)) ≡ true
trimmed-digits n some small =
    let kept = length-trimmed n small in
    are_digits-from 9 (trimmed (nine_digits n))
    (some-from_value (trimmed (nine_digits n)) (10 ^ (9 - length (trimmed (nine_digits n)))) n
    (trimmed-value n small) some)
    (omega arith)
    (list_all-take (length (nine_digits n) - suffix_len (λ c. c == 48) (nine_digits n)) (nine_digits n)
    (list_all-nine n small))
