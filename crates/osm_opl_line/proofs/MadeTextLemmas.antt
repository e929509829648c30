-- How many bytes a text has that was made of a content.
use Rattle.std.proofs.Common.{◌≡◌, ◌≤◌, ◌+◌, ◌∷◌, ◌++◌, [], ℕ, List, length, Option, None, Some, refl, arith, ap, length-append}
use Rattle.std.specs.Prelude.{◌==◌}
use Rattle.std.specs.Char.{encode_utf8}
use Rattle.std.specs.Fmt.{◌++?◌}
use Rattle.std.specs.List.{join_with_byte, slice_split}
use Rattle.std.specs.Option.{option_map}
use Rattle.std.proofs.lemmas.List.Splits.{join_with_byte-slice_split}
use Rattle.std.proofs.lemmas.Str.{length-encode}
use Rattle.osm_text.specs.Escapes.{escape_code, unescaped, unescaped_parts}
use Rattle.osm_text.proofs.UnescapedLengthLemmas.{width-code}

-- the bytes of parts, each with one byte behind it
abbrev spread : List (List ℕ) → ℕ
spread [] = 0
spread (part ∷ parts) = length part + 1 + spread parts

-- joined parts have a byte between two of them
spread-joined : (byte : ℕ) (parts : List (List ℕ)) → spread parts ≤ length (join_with_byte byte parts) + 1
spread-joined byte [] = omega arith
spread-joined byte (part ∷ []) = omega arith
spread-joined byte (part ∷ next ∷ parts) =
    omega (
      arith,
      spread-joined byte (next ∷ parts),
      length-append part (byte ∷ join_with_byte byte (next ∷ parts)),
    )

-- a text with a character in it is no longer than its parts
length-character : (plain code : List ℕ) (c : Option ℕ) (more : Option (List ℕ)) (rest : ℕ) (text : List ℕ) →
    c ≡ escape_code code → ((t : List ℕ) → more ≡ Some t → length t + 1 ≤ rest) →
    Some plain ++? option_map encode_utf8 c ++? more ≡ Some text →
    length text + 1 ≤ length plain + 1 + (length code + 1 + rest)
length-character plain code None more rest text code_is short is = cc
length-character plain code (Some n) None rest text code_is short is = cc
length-character plain code (Some n) (Some t) rest text code_is short is =
    let joined : plain ++ (encode_utf8 n ++ t) ≡ text = cc in
    omega (
      arith,
      ap length joined,
      length-append plain (encode_utf8 n ++ t),
      length-append (encode_utf8 n) t,
      length-encode n,
      width-code code n code_is,
      short t refl,
    )

-- a text is no longer than its parts
length-unescaped_parts : (parts : List (List ℕ)) (text : List ℕ) → unescaped_parts parts ≡ Some text →
    length text + 1 ≤ spread parts
length-unescaped_parts [] text is = cc
length-unescaped_parts (plain ∷ []) text is =
    let same : plain ≡ text = cc in omega (arith, ap length same)
length-unescaped_parts (plain ∷ code ∷ parts) text is =
    length-character plain code (escape_code code) (unescaped_parts parts) (spread parts) text refl
    (length-unescaped_parts parts) is

-- a text is no longer than its escaped form
pub length-unescaped : (content text : List ℕ) → unescaped content ≡ Some text → length text ≤ length content
length-unescaped content text is =
    omega (
      arith,
      length-unescaped_parts (slice_split (λ b. b == 37) content) text is,
      spread-joined 37 (slice_split (λ b. b == 37) content),
      ap length (join_with_byte-slice_split 37 content),
    )
