-- The reading of escaped texts: hexadecimal numbers, and the parts around each %.
use Rattle.std.proofs.Common.{◌≡◌, ◌<◌, ◌≤◌, ◌+◌, ◌*◌, ◌^◌, ◌∷◌, ◌++◌, [], ℕ, true, false, List, length, take, get_or, Option, None, Some, MatchOption, refl, arith, ap, sym, ◌∙◌, append_assoc, add-one}
use Rattle.std.specs.Prelude.{if◌then◌else◌, ◌==◌}
use Rattle.std.specs.Char.{is_digit, digit_value, encode_utf8, IsScalar, InScalarRange, OutOfScalarRange}
use Rattle.std.specs.Fmt.{◌++?◌}
use Rattle.std.specs.List.{list_all, slice_split}
use Rattle.std.specs.Option.{SomeIff}
use Rattle.std.specs.Str.{IsUtf8}
use Rattle.std.specs.Str.Parse.{digits_value}
use Rattle.std.proofs.Math.Nat.{pow-le-pow_right, pow-suc}
use Rattle.std.proofs.lemmas.Bool.{and_from}
use Rattle.std.proofs.lemmas.Bool.Decides.{nat_tests}
use Rattle.std.proofs.lemmas.Int.Digits.{digits_value_more}
use Rattle.std.proofs.lemmas.List.Folds.{list_all_more}
use Rattle.std.proofs.lemmas.List.Splits.{length-slice_split}
use Rattle.std.proofs.lemmas.Str.{IsUtf8-append}
use Rattle.osm_text.specs.Escapes.{are_hex, escape_code, is_char, unescaped, unescaped_parts}
use Rattle.osm_text.proofs.KeptLemmas.{kept_some}

-- up to eight hexadecimal digits write a number below 2^32
hex-below : (n i : ℕ) → n < 16 ^ i → i ≤ 8 → n < 2 ^ 32
hex-below n i small short =
    let most : 16 ^ i ≤ 16 ^ 8 = pow-le-pow_right {n = 16} (omega arith) {i = i} {j = 8} (omega arith) in
    omega arith

-- the hexadecimal digits before a place, all of them digits, and their number
pub record IsHexBefore (bytes : List ℕ) (i number : ℕ) : Type 0 where
  pub read : number ≡ digits_value 16 (take i bytes)
  pub digits : list_all (λ c. is_digit c 16) (take i bytes) ≡ true
  pub small : number < 16 ^ i

-- one digit more is added at the end of the number
pub hex-more : (bytes : List ℕ) (i number value : ℕ) → i < length bytes →
    Some value ≡ (if is_digit (get_or bytes i 0) 16 then Some (digit_value (get_or bytes i 0)) else None) →
    IsHexBefore bytes i number → IsHexBefore bytes (i + 1) (number * 16 + value)
hex-more bytes i number value within is before =
    let kept = kept_some (is_digit (get_or bytes i 0) 16) (digit_value (get_or bytes i 0)) value is in
    let sum = digits_value_more 16 bytes i within in
    let digit : value < 16 = grind (arith, nat_tests, kept.0, kept.1) in
    let power = pow-suc 16 i in
    record {
      read = omega (arith, kept.0);
      digits = rw (list_all_more (λ c. is_digit c 16) bytes i 0 within) (and_from _ _ before.digits kept.1);
      small = rw add-one (omega arith);
    }

-- a number of fewer than eight digits with one more fits 32 bits
pub hex-fits : (bytes : List ℕ) (i number value : ℕ) → i < length bytes → i < 8 →
    Some value ≡ (if is_digit (get_or bytes i 0) 16 then Some (digit_value (get_or bytes i 0)) else None) →
    IsHexBefore bytes i number → number * 16 + value < 2 ^ 32
hex-fits bytes i number value within short is before =
    hex-below (number * 16 + value) (i + 1) (hex-more bytes i number value within is before).small (omega arith)

-- a character exactly where the number is that of one
pub char-from_number : (n : ℕ) (r : Option ℕ) → MatchOption r (OutOfScalarRange n) (λ _. InScalarRange n) →
    SomeIff r (IsScalar n) n → r ≡ (if is_char n then Some n else None)
char-from_number n None out _ = let fails : is_char n ≡ false = grind (arith, nat_tests, out) in rw fails
char-from_number n (Some c) within is =
    let passes : is_char n ≡ true = grind (arith, nat_tests, within) in
    rw passes (ap Some is.1)

-- the character of the digits, by the number that they write
pub char-from_digits : (bytes : List ℕ) (n : ℕ) (r : Option ℕ) →
    Some n ≡ (if are_hex bytes then Some (digits_value 16 bytes) else None) →
    r ≡ (if is_char n then Some n else None) → r ≡ escape_code bytes
char-from_digits bytes n r read is =
    let kept = kept_some (are_hex bytes) (digits_value 16 bytes) n read in
    rw kept.1 (rw kept.0 at is)

-- two texts before a third
pub texts-join : (a b : List ℕ) (t : Option (List ℕ)) → Some a ++? (Some b ++? t) ≡ Some (a ++ b) ++? t
texts-join a b None = refl
texts-join a b (Some text) = ap Some (sym (append_assoc a b text))

-- the empty text before another
pub nothing-before : (t : Option (List ℕ)) → Some [] ++? t ≡ t
nothing-before None = refl
nothing-before (Some text) = refl

-- plain text, and what follows its %
parts-plain : (plain : List ℕ) (parts : List (List ℕ)) → 0 < length parts →
    unescaped_parts (plain ∷ parts) ≡ Some plain ++? unescaped_parts ([] ∷ parts)
parts-plain plain [] some = absurd (omega arith)
parts-plain plain (code ∷ parts) some = ap (λ t. Some plain ++? t) (sym (nothing-before _))

-- a text is its plain head and what follows the first %
pub unescaped-plain : (text plain after : List ℕ) →
    slice_split (λ b. b == 37) text ≡ plain ∷ slice_split (λ b. b == 37) after →
    unescaped text ≡ Some plain ++? unescaped (37 ∷ after)
unescaped-plain text plain after is =
    rw is
    (parts-plain plain (slice_split (λ b. b == 37) after) (omega (arith, length-slice_split (λ b. b == 37) after)))

-- the character of an escape is read after what was read before it
pub unescaped-char : (out after : List ℕ) (c : ℕ) (rest new : List ℕ) →
    unescaped (37 ∷ after) ≡ Some (encode_utf8 c) ++? unescaped rest → new ≡ out ++ encode_utf8 c →
    Some out ++? unescaped (37 ∷ after) ≡ Some new ++? unescaped rest
unescaped-char out after c rest new is grown = rw (is, grown) (texts-join out (encode_utf8 c) (unescaped rest))

-- what was read so far, and the next part of plain text and character
pub unescaped-step : (bytes out rest plain after grown new more : List ℕ) →
    unescaped bytes ≡ Some out ++? unescaped rest →
    slice_split (λ b. b == 37) rest ≡ plain ∷ slice_split (λ b. b == 37) after → grown ≡ out ++ plain →
    Some grown ++? unescaped (37 ∷ after) ≡ Some new ++? unescaped more →
    unescaped bytes ≡ Some new ++? unescaped more
unescaped-step bytes out rest plain after grown new more so_far split is step =
    let next = texts-join out plain (unescaped (37 ∷ after)) in
    so_far ∙ ap (λ t. Some out ++? t) (unescaped-plain rest plain after split) ∙ next ∙ rw is at step

-- UTF-8 after UTF-8 is UTF-8
pub utf8-grown : (out plain grown : List ℕ) → grown ≡ out ++ plain → IsUtf8 out → IsUtf8 plain → IsUtf8 grown
utf8-grown out plain grown is before after = rw is (IsUtf8-append out plain before after)
