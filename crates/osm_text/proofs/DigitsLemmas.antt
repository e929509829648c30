-- Lists that hold only digits.
use Rattle.std.proofs.Common.{◌≡◌, ◌<◌, ◌≤◌, ◌+◌, ◌*◌, ◌^◌, ℕ, Bool, true, false, List, length, take, get_or, min, Option, None, Some, IfSome, refl, arith, rules}
use Rattle.std.specs.Prelude.{if◌then◌else◌, ◌&&◌, nat_lt, nat_le}
use Rattle.std.specs.Char.{is_digit, digit_value}
use Rattle.std.specs.List.{list_all}
use Rattle.std.specs.Str.Parse.{digits_value}
use Rattle.std.proofs.lemmas.Bool.{and_from, and_parts, le-leb}
use Rattle.std.proofs.lemmas.Bool.Decides.{nat_tests}
use Rattle.std.proofs.lemmas.Int.Digits.{digits_value_more}
use Rattle.std.proofs.lemmas.List.{length-take}
use Rattle.std.proofs.lemmas.List.Folds.{list_all_more}
use Rattle.std.proofs.lemmas.Str.Parse.{IsNumeralModel, IsDigitsTest, numerals_by_value, digits_value_short}
use Rattle.osm_text.specs.Numbers.{are_digits}
use Rattle.osm_text.proofs.KeptLemmas.{kept_some}

-- the test on a list of digits is std's test
pub digits_test : IsDigitsTest (λ ds. list_all (λ c. is_digit c 10) ds ≡ true)
digits_test = search rules

-- and their value is std's value
pub digits_model : IsNumeralModel (λ ds. list_all (λ c. is_digit c 10) ds ≡ true) (digits_value 10)
digits_model = numerals_by_value _ digits_test

-- one digit more keeps a list of digits, and is added at the end of their number
pub digits-more : (bytes : List ℕ) (i digit next : ℕ) → i < length bytes →
    Some digit ≡ (if is_digit (get_or bytes i 0) 10 then Some (digit_value (get_or bytes i 0)) else None) →
    list_all (λ c. is_digit c 10) (take i bytes) ≡ true →
    next ≡ min (digits_value 10 (take i bytes) * 10 + digit) (2 ^ 63 + 1) →
    (next ≡ min (digits_value 10 (take (i + 1) bytes)) (2 ^ 63 + 1)) ×
    (list_all (λ c. is_digit c 10) (take (i + 1) bytes) ≡ true)
digits-more bytes i digit next within is before added =
    let kept = kept_some (is_digit (get_or bytes i 0) 10) (digit_value (get_or bytes i 0)) digit is in
    let value = digits_value_more 10 bytes i within in (
      omega (arith, kept.0),
      rw (list_all_more (λ c. is_digit c 10) bytes i 0 within) (and_from _ _ before kept.1),
    )

-- at most 18 digits are no number that is too large, by whether they are digits
short_digits_at : (digits : Bool) (most : ℕ) (bytes : List ℕ) → length bytes ≤ most →
    (digits ≡ true → digits_value 10 bytes < 10 ^ 18) →
    (if nat_lt 0 (length bytes) && nat_le (length bytes) (length bytes) && digits
    then Some (min (digits_value 10 bytes) (2 ^ 63 + 1)) else None) ≡
    (if nat_lt 0 (length bytes) && nat_le (length bytes) most && digits then Some (digits_value 10 bytes) else None)
short_digits_at false most bytes within small = grind (arith, nat_tests)
short_digits_at true most bytes within small =
    let low : digits_value 10 bytes < 10 ^ 18 = small refl in
    let same : min (digits_value 10 bytes) (2 ^ 63 + 1) ≡ digits_value 10 bytes = omega arith in
    rw (same, le-leb (length bytes) (length bytes) (omega arith), le-leb (length bytes) most within)

-- at most 18 digits are no number that is too large
pub short_digits : (most : ℕ) (bytes : List ℕ) → length bytes ≤ most → most ≤ 18 →
    (if are_digits (length bytes) bytes then Some (min (digits_value 10 bytes) (2 ^ 63 + 1)) else None) ≡
    (if are_digits most bytes then Some (digits_value 10 bytes) else None)
short_digits most bytes within small =
    short_digits_at (list_all (λ c. is_digit c 10) bytes) most bytes within
    (λ digits. digits_value_short digits_model bytes 18 digits (omega arith))

-- one or more digits are digits throughout
pub list_all-are_digits : (most : ℕ) (bytes : List ℕ) → are_digits most bytes ≡ true →
    list_all (λ c. is_digit c 10) bytes ≡ true
list_all-are_digits most bytes digits =
    (and_parts (nat_lt 0 (length bytes) && nat_le (length bytes) most) (list_all (λ c. is_digit c 10) bytes) digits).1

-- a number of at most `most` digits lies below that power of ten
pub digits-size : (most : ℕ) (bytes : List ℕ) (read : Option ℕ) → length bytes ≤ most →
    read ≡ (if are_digits most bytes then Some (digits_value 10 bytes) else None) → IfSome read (λ n. n < 10 ^ most)
digits-size most bytes None within is = tt
digits-size most bytes (Some n) within is =
    let kept = kept_some (are_digits most bytes) (digits_value 10 bytes) n is in
    rw kept.0 (digits_value_short digits_model bytes most (list_all-are_digits most bytes kept.1) within)

-- one digit more keeps few digits, and is added at the end of their number
pub few-more : (bytes : List ℕ) (i digit size : ℕ) → i < length bytes →
    Some digit ≡ (if is_digit (get_or bytes i 0) 10 then Some (digit_value (get_or bytes i 0)) else None) →
    list_all (λ c. is_digit c 10) (take i bytes) ≡ true → size ≡ digits_value 10 (take i bytes) → size < 10 ^ i →
    (size * 10 + digit ≡ digits_value 10 (take (i + 1) bytes)) ×
    (list_all (λ c. is_digit c 10) (take (i + 1) bytes) ≡ true) × (size * 10 + digit < 10 ^ (i + 1))
few-more bytes i digit size within is before read small =
    let kept = kept_some (is_digit (get_or bytes i 0) 10) (digit_value (get_or bytes i 0)) digit is in
    let value = digits_value_more 10 bytes i within in
    let all : list_all (λ c. is_digit c 10) (take (i + 1) bytes) ≡ true =
    rw (list_all_more (λ c. is_digit c 10) bytes i 0 within) (and_from _ _ before kept.1) in
    let longer : length (take (i + 1) bytes) ≤ i + 1 = omega (arith, length-take (i + 1) bytes) in
    let next : size * 10 + digit ≡ digits_value 10 (take (i + 1) bytes) = omega (arith, kept.0) in (
      next,
      all,
      rw next (digits_value_short digits_model (take (i + 1) bytes) (i + 1) all longer),
    )
