-- Texts without an exponent among the nano numbers: digits, and perhaps a point and digits.
use Rattle.std.proofs.Common.{◌≡◌, ◌<◌, ◌≤◌, ◌+◌, ◌-◌, ◌*◌, ◌/◌, ◌%◌, ◌^◌, ◌++◌, ◌∷◌, ◌==◌, ℕ, ℤ, pos, negsuc, suc, zero, Bool, true, false, List, [], length, take, drop, get_or, decimal, Option, None, Some, IfSome, refl, arith, ap, sym, ◌∙◌, add-one, inl, inr}
use Rattle.std.specs.Prelude.{nat_abs, nat_le, nat_lt, ◌&&◌}
use Rattle.std.specs.Char.{is_digit, digit_value}
use Rattle.std.specs.List.{list_all, position_or_len, before_first, after_first}
use Rattle.std.specs.Str.Parse.{digits_value, digits_value_after}
use Rattle.std.proofs.Math.Nat.{pow-suc, mul-div_cancel}
use Rattle.std.proofs.Math.Seq.{drop-cons, take-append_seam, drop-append-add}
use Rattle.std.proofs.lemmas.Bool.{and_parts, cases_lt, eqb-true, lt-ltb, le-ltb, le-leb, ltb-true, leb-true, ne_eqb}
use Rattle.std.proofs.lemmas.Bool.Decides.{nat_tests}
use Rattle.std.proofs.lemmas.Nat.{pow-add}
use Rattle.std.proofs.lemmas.Fmt.{digits_decimal, digits_value-decimal, decimal_nonempty, length-decimal-le}
use Rattle.std.proofs.lemmas.List.{append-nil, drop_all, length-append, take-append-drop, take_all}
use Rattle.std.proofs.lemmas.List.Folds.{list_all-append}
use Rattle.std.proofs.lemmas.List.Sums.{passes_at_first}
use Rattle.osm_text.specs.Nano.{is_letter, is_point, limited, moved, nano, nano_moved, nano_size, without_sign}
use Rattle.osm_text.specs.Numbers.{are_digits, fraction_text, has_minus, nano_text, nine_digits, signed, trimmed, unsigned_part}
use Rattle.osm_text.proofs.DegreesLemmas.{digits_value_after-append, pow-some}
use Rattle.osm_text.proofs.DigitsLemmas.{digits_model, list_all-are_digits}
use Rattle.osm_text.proofs.ReadBackLemmas.{digit-no_minus, digits-no_minus, trimmed-digits, trimmed-value}

-- degrees as digits before and after the point, in nanodegrees: the tenth part of a digit's worth for each place
abbrev nanos : List ℕ → List ℕ → ℕ
nanos before after = digits_value 10 before * 10 ^ 9 + digits_value 10 after * 10 ^ (9 - length after)

-- a digit is no point
digit-no_point : (c : ℕ) → is_digit c 10 ≡ true → is_point c ≡ false
digit-no_point c digit = grind (arith, nat_tests)

-- a digit is no letter of an exponent
digit-no_letter : (c : ℕ) → is_digit c 10 ≡ true → is_letter c ≡ false
digit-no_letter c digit = grind (arith, nat_tests)

-- a digit is no plus
digit-no_plus : (c : ℕ) → is_digit c 10 ≡ true → (c == 43) ≡ false
digit-no_plus c digit = grind (arith, nat_tests)

-- the digits before a place have no byte that no digit is
past-digits : (test : ℕ → Bool) (digits rest : List ℕ) → ((c : ℕ) → is_digit c 10 ≡ true → test c ≡ false) →
    list_all (λ c. is_digit c 10) digits ≡ true →
    position_or_len test (digits ++ rest) ≡ length digits + position_or_len test rest
past-digits test [] rest others each = omega arith
past-digits test (c ∷ cs) rest others each =
    let parts = and_parts (is_digit c 10) (list_all (λ c. is_digit c 10) cs) each in
    let next = past-digits test cs rest others parts.1 in
    rw (others c parts.0) (omega arith)

-- the place in digits alone is their end
digits-place : (test : ℕ → Bool) (digits : List ℕ) → ((c : ℕ) → is_digit c 10 ≡ true → test c ≡ false) →
    list_all (λ c. is_digit c 10) digits ≡ true → position_or_len test digits ≡ length digits
digits-place test digits others each =
    let past = past-digits test digits [] others each in
    rw append-nil at past ∙ omega arith

-- digits written after a number move it by their places
digits_value_after-sum : (n : ℕ) (digits : List ℕ) →
    digits_value_after 10 n digits ≡ n * 10 ^ length digits + digits_value 10 digits
digits_value_after-sum n [] = omega arith
digits_value_after-sum n (c ∷ cs) =
    let first = digits_value_after-sum (n * 10 + digit_value c) cs in
    let alone = digits_value_after-sum (0 * 10 + digit_value c) cs in
    rw (first, alone, pow-suc) (omega arith)

-- nine places, parted at a place
nine-places : (places : ℕ) → places ≤ 9 → 10 ^ 9 ≡ 10 ^ (9 - places) * 10 ^ places
nine-places places few =
    let nine : 9 ≡ (9 - places) + places = omega arith in
    ap (λ k. 10 ^ k) nine ∙ pow-add 10 (9 - places) places

-- what is moved by all places is what is moved by some, and then by the rest
spread : (leading back some rest all : ℕ) → all ≡ rest * some →
    (leading * some + back) * all ≡ (leading * all + back * rest) * some
spread leading back some rest all is = rw is (omega arith)

-- the digits around a point, with the point unmoved, are the nanodegrees of the parts
moved-none : (before after : List ℕ) → length after ≤ 9 → moved before after 0 0 ≡ nanos before after
moved-none before after few =
    let joined : digits_value 10 (before ++ after) ≡
    digits_value 10 before * 10 ^ length after + digits_value 10 after =
    digits_value_after-append 0 before after ∙ digits_value_after-sum (digits_value 10 before) after in
    let whole : digits_value 10 (before ++ after) * 10 ^ 9 ≡ nanos before after * 10 ^ length after =
    rw joined
    (spread (digits_value 10 before) (digits_value 10 after) (10 ^ length after) (10 ^ (9 - length after)) (10 ^ 9)
    (nine-places (length after) few)) in
    let none : length after + 0 ≡ length after = omega arith in
    rw (none, whole) (mul-div_cancel (nanos before after) (pow-some (length after)))

-- one to 38 digits around a point
joined-digits : (before after : List ℕ) → 0 < length before → length before + length after ≤ 38 →
    list_all (λ c. is_digit c 10) before ≡ true → list_all (λ c. is_digit c 10) after ≡ true →
    are_digits 38 (before ++ after) ≡ true
joined-digits before after some few leading back =
    rw (
      length-append,
      lt-ltb 0 (length before + length after) (omega arith),
      le-leb (length before + length after) 38 few,
      list_all-append (λ c. is_digit c 10) before after,
      leading,
      back,
    )

-- the size of digits around a point, by where the point stands
nano_moved-at : (number before after : List ℕ) → before_first is_point number ≡ before →
    after_first is_point number ≡ after → length after ≤ 9 → are_digits 38 (before ++ after) ≡ true →
    nano_moved number 0 0 ≡ limited (nanos before after)
nano_moved-at number before after leading back few digits = rw (leading, back, digits, moved-none before after few)

-- a text without the letter of an exponent is looked at whole
nano_size-plain : (text : List ℕ) → position_or_len is_letter text ≡ length text → nano_size text ≡ nano_moved text 0 0
nano_size-plain text none = rw (none, le-ltb (length text) (length text) (omega arith))

-- the size of digits alone
nano_size-digits : (digits : List ℕ) → 0 < length digits → length digits ≤ 38 →
    list_all (λ c. is_digit c 10) digits ≡ true → nano_size digits ≡ limited (nanos digits [])
nano_size-digits digits some few each =
    let place : position_or_len is_point digits ≡ length digits = digits-place is_point digits digit-no_point each in
    let letter = digits-place is_letter digits digit-no_letter each in
    let all : before_first is_point digits ≡ digits = rw place (take_all (length digits) digits (omega arith)) in
    let past : after_first is_point digits ≡ [] = rw place (drop_all (length digits + 1) digits (omega arith)) in
    nano_size-plain digits letter ∙
    nano_moved-at digits digits [] all past (omega arith) (joined-digits digits [] some (omega arith) each refl)

-- the size of digits around a point
nano_size-pointed : (before after : List ℕ) → 0 < length before → length before + length after ≤ 38 →
    length after ≤ 9 → list_all (λ c. is_digit c 10) before ≡ true → list_all (λ c. is_digit c 10) after ≡ true →
    nano_size (before ++ 46 ∷ after) ≡ limited (nanos before after)
nano_size-pointed before after some few places leading back =
    let place : position_or_len is_point (before ++ 46 ∷ after) ≡ length before =
    past-digits is_point before (46 ∷ after) digit-no_point leading ∙ omega arith in
    let rest = digits-place is_letter after digit-no_letter back in
    let letter : position_or_len is_letter (before ++ 46 ∷ after) ≡ length (before ++ 46 ∷ after) =
    past-digits is_letter before (46 ∷ after) digit-no_letter leading ∙ rw length-append (omega arith) in
    let first : before_first is_point (before ++ 46 ∷ after) ≡ before =
    rw place (take-append_seam before (46 ∷ after)) in
    let past : after_first is_point (before ++ 46 ∷ after) ≡ after = rw place (drop-append-add before (46 ∷ after) 1) in
    nano_size-plain (before ++ 46 ∷ after) letter ∙
    nano_moved-at (before ++ 46 ∷ after) before after first past places
    (joined-digits before after some few leading back)

-- a text that begins with a digit after its minus has no other sign
without_sign-digits : (minus : Bool) (bytes digits rest : List ℕ) → has_minus bytes ≡ minus →
    unsigned_part bytes ≡ digits ++ rest → 0 < length digits → list_all (λ c. is_digit c 10) digits ≡ true →
    without_sign bytes ≡ digits ++ rest
without_sign-digits true bytes digits rest sign is some each = rw sign (rw sign at is)
without_sign-digits false bytes [] rest sign is some each = absurd (omega arith)
without_sign-digits false bytes (c ∷ cs) rest sign is some each =
    let first : is_digit c 10 ≡ true = (and_parts (is_digit c 10) (list_all (λ c. is_digit c 10) cs) each).0 in
    let whole : bytes ≡ c ∷ (cs ++ rest) = rw sign at is in
    rw (whole, digit-no_minus c first, digit-no_plus c first)

-- a number of nanodegrees within the limit
limited-within : (n : ℕ) → n ≤ 10 ^ 18 → limited n ≡ Some n
limited-within n within = rw (le-leb n (10 ^ 18) within)

-- a nano number from its sign and a size
nano-at : (minus : Bool) (bytes digits rest : List ℕ) (n : ℕ) → has_minus bytes ≡ minus →
    unsigned_part bytes ≡ digits ++ rest → 0 < length digits → list_all (λ c. is_digit c 10) digits ≡ true →
    nano_size (digits ++ rest) ≡ limited n → n ≤ 10 ^ 18 → nano bytes ≡ Some (signed minus n)
nano-at minus bytes digits rest n sign is some each size within =
    rw (without_sign-digits minus bytes digits rest sign is some each, size, limited-within n within, sign)

-- how many digits there are
are_digits-length : (most : ℕ) (digits : List ℕ) → are_digits most digits ≡ true →
    (0 < length digits) × (length digits ≤ most)
are_digits-length most digits are =
    let counted = nat_lt 0 (length digits) && nat_le (length digits) most in
    let first = (and_parts counted (list_all (λ c. is_digit c 10) digits) are).0 in
    let both = and_parts (nat_lt 0 (length digits)) (nat_le (length digits) most) first in
    (ltb-true 0 (length digits) both.0, leb-true (length digits) most both.1)

-- the size of short degrees, by the digits before and after their point
nano_size-short : (text before after : List ℕ) → before_first is_point text ≡ before →
    after_first is_point text ≡ after → are_digits 9 before ≡ true → list_all (λ c. is_digit c 10) after ≡ true →
    length after ≤ 9 → nano_size text ≡ limited (nanos before after)
nano_size-short text before after first past digits back places =
    let size = are_digits-length 9 before digits in
    let leading = list_all-are_digits 9 before digits in
    elim (cases_lt (position_or_len is_point text) (length text)) [
      | inl within ↦
          let point : get_or text (position_or_len is_point text) 0 ≡ 46 =
          eqb-true _ 46 (passes_at_first is_point text 0 within) in
          let tail : drop (suc (position_or_len is_point text)) text ≡ after = rw add-one at past in
          let rest : drop (position_or_len is_point text) text ≡ 46 ∷ after =
          drop-cons text (position_or_len is_point text) 0 within ∙ rw point (ap (λ t. 46 ∷ t) tail) in
          let whole : text ≡ before ++ 46 ∷ after =
          sym (take-append-drop (position_or_len is_point text) text) ∙ rw (first, rest) refl in
          rw whole (nano_size-pointed before after size.0 (omega arith) places leading back)
      | inr end ↦
          let whole : text ≡ before =
          sym (take_all (position_or_len is_point text) text (omega arith)) ∙ first in
          let none : after ≡ [] =
          sym past ∙ drop_all (position_or_len is_point text + 1) text (omega arith) in
          rw (whole, none) (nano_size-digits before size.0 (omega arith) leading)
    ]

-- what was read as short degrees is the size
pub nano_size-short_read : (text after : List ℕ) (at : ℕ) (read : Option ℕ) → at ≡ position_or_len is_point text →
    after ≡ drop (at + 1) text → IfSome read (λ n. n ≡ nanos (take at text) after) →
    IfSome read (λ _. are_digits 9 (take at text) ≡ true) →
    IfSome read (λ _. list_all (λ c. is_digit c 10) after ≡ true) → IfSome read (λ _. length after ≤ 9) →
    IfSome read (λ n. n < 10 ^ 18) → IfSome read (λ n. Some n ≡ nano_size text)
nano_size-short_read text after at None place past value digits back places small = tt
nano_size-short_read text after at (Some n) place past value digits back places small =
    let size = nano_size-short text (take at text) after (rw place refl) (rw (past, place) refl) digits back places in
    sym (size ∙ rw (← value) (limited-within n (omega (arith, small))))

-- what is written of degrees and a fraction, after its sign
nano-written : (minus : Bool) (bytes : List ℕ) (degrees rest : ℕ) → degrees ≤ 10 ^ 9 → rest < 10 ^ 9 →
    degrees * 10 ^ 9 + rest ≤ 10 ^ 18 → has_minus bytes ≡ minus →
    unsigned_part bytes ≡ decimal degrees ++ fraction_text rest →
    nano bytes ≡ Some (signed minus (degrees * 10 ^ 9 + rest))
nano-written minus bytes degrees zero high low within sign is =
    let digits = digits_decimal digits_model degrees (omega arith) in
    let value : digits_value 10 (decimal degrees) ≡ degrees = digits_value-decimal digits_model degrees (omega arith) in
    let some = decimal_nonempty degrees (omega arith) in
    let few = length-decimal-le 10 degrees (omega arith) (omega arith) (omega arith) in
    let size = nano_size-digits (decimal degrees) some (omega arith) digits in
    nano-at minus bytes (decimal degrees) [] (degrees * 10 ^ 9 + 0) sign is some digits
    (rw append-nil (rw value at size)) within
nano-written minus bytes degrees (suc k) high low within sign is =
    let digits = digits_decimal digits_model degrees (omega arith) in
    let value : digits_value 10 (decimal degrees) ≡ degrees = digits_value-decimal digits_model degrees (omega arith) in
    let some = decimal_nonempty degrees (omega arith) in
    let few = length-decimal-le 10 degrees (omega arith) (omega arith) (omega arith) in
    let fraction = trimmed-digits (suc k) (omega arith) low in
    let places = are_digits-length 9 (trimmed (nine_digits (suc k))) fraction in
    let size = nano_size-pointed (decimal degrees) (trimmed (nine_digits (suc k))) some (omega arith) places.1 digits
    (list_all-are_digits 9 (trimmed (nine_digits (suc k))) fraction) in
    nano-at minus bytes (decimal degrees) (46 ∷ trimmed (nine_digits (suc k))) (degrees * 10 ^ 9 + suc k) sign
    (rw (ne_eqb (suc k) 0 (λ is. omega arith)) at is) some digits
    (rw (value, trimmed-value (suc k) low) at size) within

-- the text of nanodegrees up to 10^18 reads back
pub nano-nano_text : (z : ℤ) → nat_abs z ≤ 10 ^ 18 → nano (nano_text z) ≡ Some z
nano-nano_text (pos n) small =
    let sum : n / 10 ^ 9 * 10 ^ 9 + n % 10 ^ 9 ≡ n = omega arith in
    let sign = digits-no_minus (decimal (n / 10 ^ 9)) (fraction_text (n % 10 ^ 9))
    (decimal_nonempty (n / 10 ^ 9) (omega arith)) (digits_decimal digits_model (n / 10 ^ 9) (omega arith)) in
    rw (le-ltb n 0 (omega arith))
    (rw sum at (nano-written false (decimal (n / 10 ^ 9) ++ fraction_text (n % 10 ^ 9)) (n / 10 ^ 9) (n % 10 ^ 9)
    (omega arith) (omega arith) (omega arith) sign (rw sign)))
nano-nano_text (negsuc n) small =
    let sum : suc n / 10 ^ 9 * 10 ^ 9 + suc n % 10 ^ 9 ≡ suc n = omega arith in
    rw sum at (nano-written true (45 ∷ (decimal (suc n / 10 ^ 9) ++ fraction_text (suc n % 10 ^ 9)))
    (suc n / 10 ^ 9) (suc n % 10 ^ 9) (omega arith) (omega arith) (omega arith) refl refl)
