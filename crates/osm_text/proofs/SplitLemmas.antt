-- Bytes that are cut at an ASCII character: their parts join again, and UTF-8 has UTF-8 on both sides.
use Rattle.std.proofs.Common.{◌≡◌, ◌<◌, ◌+◌, ◌∷◌, ◌++◌, [], ℕ, List, length, take, drop, get_or, arith, refl, ap, sym, ◌∙◌}
use Rattle.std.specs.Prelude.{◌==◌}
use Rattle.std.specs.List.{slice_split}
use Rattle.std.specs.Str.{IsUtf8}
use Rattle.std.proofs.lemmas.Grind.{common_steps}
use Rattle.std.proofs.lemmas.List.Splits.{length-slice_split, join_with_byte-slice_split}
use Rattle.std.proofs.lemmas.Str.{IsUtf8-take, IsUtf8-drop, IsCharBoundary-before_ascii, IsCharBoundary-after_ascii}

-- what is cut in parts is the first part, the byte, and the rest whose parts follow
split-joined_parts : (byte : ℕ) (bytes head rest : List ℕ) (parts : List (List ℕ)) →
    slice_split (λ b. b == byte) rest ≡ parts → slice_split (λ b. b == byte) bytes ≡ head ∷ parts →
    bytes ≡ head ++ byte ∷ rest
split-joined_parts byte bytes head rest [] more is =
    absurd (omega (arith, length-slice_split (λ b. b == byte) rest, ap length more))
split-joined_parts byte bytes head rest (part ∷ parts) more is =
    let whole = rw is at (join_with_byte-slice_split byte bytes) in
    let others = rw more at (join_with_byte-slice_split byte rest) in
    sym whole ∙ ap (λ t. head ++ byte ∷ t) others

-- the first part, the byte and the rest are what was cut
pub split-joined : (byte : ℕ) (bytes head rest : List ℕ) →
    slice_split (λ b. b == byte) bytes ≡ head ∷ slice_split (λ b. b == byte) rest → bytes ≡ head ++ byte ∷ rest
split-joined byte bytes head rest is =
    split-joined_parts byte bytes head rest (slice_split (λ b. b == byte) rest) refl is

-- what stands before and after an ASCII character of UTF-8 is UTF-8
pub IsUtf8-around : (head : List ℕ) (b : ℕ) (rest : List ℕ) → b < 128 → IsUtf8 (head ++ b ∷ rest) →
    IsUtf8 head × IsUtf8 rest
IsUtf8-around head b rest ascii whole =
    let here : get_or (head ++ b ∷ rest) (length head) 0 ≡ b = grind (arith, common_steps) in
    let within : length head < length (head ++ b ∷ rest) = grind (arith, common_steps) in
    let before : take (length head) (head ++ b ∷ rest) ≡ head = grind (arith, common_steps) in
    let after : drop (length head + 1) (head ++ b ∷ rest) ≡ rest = grind (arith, common_steps) in (
      rw before at
          (IsUtf8-take _ (length head) whole (IsCharBoundary-before_ascii _ (length head) within (omega arith))),
      rw after at
          (IsUtf8-drop _ (length head + 1) whole
          (IsCharBoundary-after_ascii _ (length head) whole within (omega arith))),
    )

-- what follows an ASCII character that begins UTF-8 is UTF-8
pub IsUtf8-behind : (b : ℕ) (rest : List ℕ) → b < 128 → IsUtf8 (b ∷ rest) → IsUtf8 rest
IsUtf8-behind b rest ascii whole = (IsUtf8-around [] b rest ascii whole).1

-- the parts of UTF-8 around the first of an ASCII character are UTF-8
pub IsUtf8-parts : (byte : ℕ) (bytes head rest : List ℕ) → byte < 128 →
    slice_split (λ b. b == byte) bytes ≡ head ∷ slice_split (λ b. b == byte) rest → IsUtf8 bytes →
    IsUtf8 head × IsUtf8 rest
IsUtf8-parts byte bytes head rest ascii is whole =
    IsUtf8-around head byte rest ascii (rw (split-joined byte bytes head rest is) at whole)
