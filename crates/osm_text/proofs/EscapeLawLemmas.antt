-- Escaped texts read back, byte by byte.
use Rattle.std.proofs.Common.{◌≡◌, ◌<◌, ◌/◌, ◌%◌, ◌∷◌, ◌++◌, [], ℕ, Bool, true, false, List, Some, get_or, refl, arith, ap, sym, ◌∙◌, append_assoc, inl, inr}
use Rattle.std.specs.Prelude.{◌==◌}
use Rattle.std.specs.Char.{digit_value, encode_utf8, is_digit}
use Rattle.std.specs.Fmt.{digits, digit_glyph, ◌++?◌}
use Rattle.std.specs.List.{All, list_all, onto_first, slice_split}
use Rattle.std.specs.Option.{option_map}
use Rattle.std.specs.Str.Parse.{digits_value}
use Rattle.std.proofs.lemmas.Bool.{and_parts, cases_lt}
use Rattle.std.proofs.lemmas.Bool.Decides.{nat_tests}
use Rattle.std.proofs.lemmas.Fmt.{hex_one_digit, hex_two_digits}
use Rattle.std.proofs.lemmas.List.Splits.{slice_split-cons_no, slice_split_at}
use Rattle.std.proofs.lemmas.List.Sums.{AllPass-from_list_all}
use Rattle.std.proofs.lemmas.Str.{encode_ascii}
use Rattle.osm_text.specs.Escapes.{are_hex, escape_code, escaped, escaped_byte, hex_escape, is_char, is_reserved, unescaped, unescaped_parts}
use Rattle.osm_text.proofs.UnescapeLemmas.{nothing-before, texts-join}

-- a hexadecimal digit has the value that it was written for
glyph-value : (d : ℕ) → d < 16 → digit_value (digit_glyph false d) ≡ d
glyph-value d small = grind (arith, nat_tests)

-- and is a digit
glyph-digit : (d : ℕ) → d < 16 → is_digit (digit_glyph false d) 16 ≡ true
glyph-digit d small = rw (glyph-value d small) (grind (arith, nat_tests))

-- the digits of an ASCII character are hexadecimal and write its number
digits-hex : (n : ℕ) → n < 128 → (are_hex (digits 16 false n) ≡ true) × (digits_value 16 (digits 16 false n) ≡ n)
digits-hex n ascii = elim (cases_lt n 16) [
  | inl low ↦
      rw (hex_one_digit false n low)
      (rw (glyph-digit n low), omega (arith, glyph-value n low))
  | inr high ↦
      rw (hex_two_digits false n high (omega arith)) (
        rw (glyph-digit (n / 16) (omega arith), glyph-digit (n % 16) (omega arith)),
        omega (arith, glyph-value (n / 16) (omega arith), glyph-value (n % 16) (omega arith)),
      )
]

-- the digits of an ASCII character are the number of a character
escape_code-digits : (n : ℕ) → n < 128 → escape_code (digits 16 false n) ≡ Some n
escape_code-digits n ascii =
    let hex = digits-hex n ascii in
    let char : is_char n ≡ true = grind (arith, nat_tests) in
    rw (hex.0, hex.1, char)

-- a hexadecimal digit is no %
digit-no_percent : (c : ℕ) → is_digit c 16 ≡ true → (c == 37) ≡ false
digit-no_percent c digit = grind (arith, nat_tests)

-- the digits of an ASCII character have no %
digits-no_percent : (n : ℕ) → n < 128 → All (λ b. (b == 37) ≡ false) (digits 16 false n)
digits-no_percent n ascii =
    let each = (and_parts _ (list_all (λ c. is_digit c 16) (digits 16 false n)) (digits-hex n ascii).0).1 in
    λ k d below.
    digit-no_percent (get_or (digits 16 false n) k d)
    (AllPass-from_list_all (λ c. is_digit c 16) (digits 16 false n) each k d below)

-- an escape before a text is cut off as two parts
split-escape : (n : ℕ) (rest : List ℕ) → n < 128 →
    slice_split (λ b. b == 37) (digits 16 false n ++ 37 ∷ rest) ≡ digits 16 false n ∷ slice_split (λ b. b == 37) rest
split-escape n rest ascii =
    slice_split_at (λ b. b == 37) (digits 16 false n) 37 rest (digits-no_percent n ascii) refl

-- an escape before a text reads as its character before what the text reads as
unescaped-hex_escape : (n : ℕ) (rest : List ℕ) → n < 128 →
    unescaped (hex_escape n ++ rest) ≡ Some (n ∷ []) ++? unescaped rest
unescaped-hex_escape n rest ascii =
    let same : hex_escape n ++ rest ≡ 37 ∷ (digits 16 false n ++ 37 ∷ rest) =
    ap (λ t. 37 ∷ t) (append_assoc (digits 16 false n) (37 ∷ []) rest) in
    ap unescaped same ∙
    rw (split-escape n rest ascii, escape_code-digits n ascii, encode_ascii n ascii) (nothing-before _)

-- a byte before the first part is read before all
parts-onto_first : (b : ℕ) (text : List ℕ) (parts : List (List ℕ)) → unescaped_parts parts ≡ Some text →
    unescaped_parts (onto_first b parts) ≡ Some (b ∷ text)
parts-onto_first b text [] is = cc
parts-onto_first b text (plain ∷ []) is = cc
parts-onto_first b text (plain ∷ code ∷ parts) is =
    sym (texts-join (b ∷ []) plain (option_map encode_utf8 (escape_code code) ++? unescaped_parts parts)) ∙
    ap (λ t. Some (b ∷ []) ++? t) is

-- a byte that is no % is read as it is
unescaped-byte : (b : ℕ) (rest text : List ℕ) → (b == 37) ≡ false → unescaped rest ≡ Some text →
    unescaped (b ∷ rest) ≡ Some (b ∷ text)
unescaped-byte b rest text plain is =
    rw (slice_split-cons_no (λ b. b == 37) b rest plain)
    (parts-onto_first b text (slice_split (λ b. b == 37) rest) is)

-- a reserved byte is ASCII
pub reserved-ascii : (b : ℕ) → is_reserved b ≡ true → b < 128
reserved-ascii b reserved = grind (arith, nat_tests)

-- a byte that is not reserved is no %
plain-no_percent : (b : ℕ) → is_reserved b ≡ false → (b == 37) ≡ false
plain-no_percent b plain = grind (arith, nat_tests)

-- the written form of a byte reads back before what follows
unescaped-escaped_byte : (b : ℕ) (reserved : Bool) (rest text : List ℕ) → is_reserved b ≡ reserved →
    unescaped rest ≡ Some text → unescaped (escaped_byte b ++ rest) ≡ Some (b ∷ text)
unescaped-escaped_byte b true rest text reserved is =
    rw (reserved, unescaped-hex_escape b rest (reserved-ascii b reserved), is)
unescaped-escaped_byte b false rest text plain is =
    rw plain (unescaped-byte b rest text (plain-no_percent b plain) is)

-- the written form of a text reads back
pub unescaped-escaped : (text : List ℕ) → unescaped (escaped text) ≡ Some text
unescaped-escaped [] = refl
unescaped-escaped (b ∷ text) =
    unescaped-escaped_byte b (is_reserved b) (escaped text) text refl (unescaped-escaped text)
