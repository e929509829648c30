-- The bytes of escaped texts: none parts a line or a list, and all together are UTF-8.
use Rattle.std.proofs.Common.{◌≡◌, inl, inr, ℕ, ◌/◌, ◌%◌, ◌<◌, ◌≤◌, List, [], ◌∷◌, ◌++◌, get_or, true, false, arith, sym, refl}
use Rattle.std.specs.Prelude.{◌≢◌, All}
use Rattle.std.specs.Char.{encode_utf8, IsScalar}
use Rattle.std.specs.Fmt.{digits, digit_glyph}
use Rattle.std.specs.Str.{IsUtf8, all_scalars, encode_utf8_all}
use Rattle.std.proofs.lemmas.Bool.{cond_both, cases_lt, and_parts}
use Rattle.std.proofs.lemmas.Bool.Decides.{nat_tests}
use Rattle.std.proofs.lemmas.Fmt.{hex_one_digit, hex_two_digits}
use Rattle.std.proofs.lemmas.Grind.{flat_map-append}
use Rattle.std.proofs.lemmas.List.{append-nil}
use Rattle.std.proofs.lemmas.List.Elements.{All-nil, All-cons, All-append, All-weaker, All-head, All-tail, All-from_get_or}
use Rattle.std.proofs.lemmas.Str.{IsUtf8-nil, IsUtf8-append, IsUtf8-encode, encode_ascii, inside_one}
use Rattle.osm_text.specs.Escapes.{escaped, escaped_byte, hex_escape, is_reserved}
use Rattle.osm_text.proofs.EscapeLawLemmas.{reserved-ascii}
use Rattle.osm_opl_line.proofs.PlainTextLemmas.{utf8-low}

-- a byte of an escaped text: above the space, and no comma, = or @
pub record IsEscapedByte (b : ℕ) : Type 0 where
  pub visible : 32 < b
  pub no_comma : b ≢ 44
  pub no_equals : b ≢ 61
  pub no_at : b ≢ 64

-- a byte of an escape is one, and below 128
abbrev IsHexByte : ℕ → Type 0
IsHexByte b = IsEscapedByte b × (b < 128)

-- a hexadecimal digit is a byte of an escape
digit_glyph-hex : (d : ℕ) → d < 16 → IsHexByte (digit_glyph false d)
digit_glyph-hex d small = (
  record {
    visible = grind (arith, nat_tests);
    no_comma = grind (arith, nat_tests);
    no_equals = grind (arith, nat_tests);
    no_at = grind (arith, nat_tests);
  },
  grind (arith, nat_tests),
)

-- the sign before and after an escape's digits
percent-hex : IsHexByte 37
percent-hex = (
  record { visible = omega arith; no_comma = omega arith; no_equals = omega arith; no_at = omega arith },
  omega arith,
)

-- the digits of a number below 256
digits-hex : (n : ℕ) → n < 256 → All IsHexByte (digits 16 false n)
digits-hex n small = elim (cases_lt n 16) [
  | inl low ↦
      rw (hex_one_digit false n low)
      (All-cons IsHexByte (digit_glyph false n) [] (digit_glyph-hex n low) (All-nil IsHexByte))
  | inr high ↦
      rw (hex_two_digits false n high small)
      (All-cons IsHexByte (digit_glyph false (n / 16)) (digit_glyph false (n % 16) ∷ [])
      (digit_glyph-hex (n / 16) (omega arith))
      (All-cons IsHexByte (digit_glyph false (n % 16)) [] (digit_glyph-hex (n % 16) (omega arith))
      (All-nil IsHexByte)))
]

-- an escape
hex_escape-hex : (n : ℕ) → n < 256 → All IsHexByte (hex_escape n)
hex_escape-hex n small =
    All-cons IsHexByte 37 (digits 16 false n ++ 37 ∷ []) percent-hex
    (All-append IsHexByte (digits 16 false n) (37 ∷ []) (digits-hex n small)
    (All-cons IsHexByte 37 [] percent-hex (All-nil IsHexByte)))

-- a byte that isn't reserved stays
plain-escaped : (b : ℕ) → is_reserved b ≡ false → IsEscapedByte b
plain-escaped b plain = record {
  visible = grind (arith, nat_tests);
  no_comma = grind (arith, nat_tests);
  no_equals = grind (arith, nat_tests);
  no_at = grind (arith, nat_tests);
}

-- the written form of a byte
escaped_byte-escaped : (b : ℕ) → All IsEscapedByte (escaped_byte b)
escaped_byte-escaped b =
    cond_both (is_reserved b) (hex_escape b) (b ∷ []) (All IsEscapedByte)
    (λ reserved. All-weaker IsHexByte IsEscapedByte (λ c hex. hex.0) (hex_escape b)
    (hex_escape-hex b (omega (arith, reserved-ascii b reserved))))
    (λ plain. All-cons IsEscapedByte b [] (plain-escaped b plain) (All-nil IsEscapedByte))

-- the written form of a text
pub escaped-escaped : (text : List ℕ) → All IsEscapedByte (escaped text)
escaped-escaped [] = All-nil IsEscapedByte
escaped-escaped (b ∷ text) =
    All-append IsEscapedByte (escaped_byte b) (escaped text) (escaped_byte-escaped b) (escaped-escaped text)

-- the written form of an ASCII byte is UTF-8
escaped_byte-utf8 : (b : ℕ) → b < 128 → IsUtf8 (escaped_byte b)
escaped_byte-utf8 b low =
    cond_both (is_reserved b) (hex_escape b) (b ∷ []) IsUtf8
    (λ _. utf8-low (hex_escape b)
    (All-weaker IsHexByte (λ c. c < 128) (λ c hex. hex.1) (hex_escape b) (hex_escape-hex b (omega arith))))
    (λ _. utf8-low (b ∷ []) (All-cons (λ c. c < 128) b [] low (All-nil (λ c. c < 128))))

-- bytes from 128 on are written as they are
escaped-high : (bytes : List ℕ) → All (λ b. 128 ≤ b) bytes → escaped bytes ≡ bytes
escaped-high [] high = refl
escaped-high (b ∷ bytes) high =
    let first : 128 ≤ b = All-head (λ b. 128 ≤ b) b bytes high in
    let plain : is_reserved b ≡ false = grind (arith, nat_tests) in
    rw (plain, escaped-high bytes (All-tail (λ b. 128 ≤ b) b bytes high)) refl

-- the bytes of a character that isn't ASCII are from 128 on
encode-high : (c : ℕ) → 128 ≤ c → All (λ b. 128 ≤ b) (encode_utf8 c)
encode-high c high = All-from_get_or (λ b. 128 ≤ b) (encode_utf8 c) 0 (λ k within.
    elim (cases_lt (get_or (encode_utf8 c) k 0) 128) [
      | inl low ↦
          absurd (omega (arith, inside_one c [] (encode_utf8 c) k (sym (append-nil (encode_utf8 c))) within low))
      | inr far ↦ far
    ])

-- the written form of a character is UTF-8
escaped-char : (c : ℕ) → IsScalar c → IsUtf8 (escaped (encode_utf8 c))
escaped-char c scalar =
    elim (cases_lt c 128) [
      | inl low ↦ rw (encode_ascii c low, append-nil) (escaped_byte-utf8 c low)
      | inr high ↦ rw (escaped-high (encode_utf8 c) (encode-high c high)) (IsUtf8-encode c scalar)
    ]

-- the written form of characters is UTF-8
escaped-chars : (cs : List ℕ) → all_scalars cs ≡ true → IsUtf8 (escaped (encode_utf8_all cs))
escaped-chars [] each = IsUtf8-nil
escaped-chars (c ∷ cs) each =
    let parts = and_parts _ (all_scalars cs) each in
    rw (flat_map-append escaped_byte (encode_utf8 c) (encode_utf8_all cs))
    (IsUtf8-append (escaped (encode_utf8 c)) (escaped (encode_utf8_all cs)) (escaped-char c parts.0)
    (escaped-chars cs parts.1))

-- the written form of UTF-8 is UTF-8
pub escaped-utf8 : (text : List ℕ) → IsUtf8 text → IsUtf8 (escaped text)
escaped-utf8 text whole = rw (← whole.1.1) (escaped-chars whole.0 whole.1.0)
