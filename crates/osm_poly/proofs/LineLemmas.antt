-- The lines of bytes, from the bytes after the first newline.
use Rattle.std.proofs.Common.{◌≡◌, ◌<◌, ◌+◌, ◌∷◌, [], ℕ, List, length, map, arith, refl}
use Rattle.std.specs.Prelude.{◌==◌}
use Rattle.std.specs.List.{slice_split, enumerate_from}
use Rattle.std.proofs.lemmas.Bool.{lt-ltb}
use Rattle.std.proofs.lemmas.List.{length-map}
use Rattle.std.proofs.lemmas.List.Splits.{length-slice_split}
use Rattle.osm_entity.specs.Ascii.{newline}
use Rattle.osm_poly.specs.Lines.{file_lines, poly_lines, said, said_from, stripped}

-- a line before others
file_lines-more : (line : List ℕ) (parts : List (List ℕ)) → 0 < length parts →
    file_lines (line ∷ parts) ≡ line ∷ file_lines parts
file_lines-more line [] some = absurd (omega arith)
file_lines-more line (part ∷ parts) some = refl

-- the first line of bytes, and those of the bytes after its newline
pub poly_lines-cut : (bytes line rest : List ℕ) →
    slice_split (λ b. b == newline) bytes ≡ line ∷ slice_split (λ b. b == newline) rest →
    poly_lines bytes ≡ stripped line ∷ poly_lines rest
poly_lines-cut bytes line rest is =
    let some : 0 < length (map stripped (slice_split (λ b. b == newline) rest)) =
    grind (arith, length-slice_split (λ b. b == newline) rest, length-map) in
    rw is (file_lines-more (stripped line) (map stripped (slice_split (λ b. b == newline) rest)) some)

-- bytes without a newline that hold more than blanks are a line
pub poly_lines-last : (bytes : List ℕ) → slice_split (λ b. b == newline) bytes ≡ bytes ∷ [] →
    0 < length (stripped bytes) → poly_lines bytes ≡ stripped bytes ∷ []
poly_lines-last bytes is some = rw (is, lt-ltb 0 (length (stripped bytes)) some) refl

-- blanks alone are none
pub poly_lines-none : (bytes : List ℕ) → slice_split (λ b. b == newline) bytes ≡ bytes ∷ [] → stripped bytes ≡ [] →
    poly_lines bytes ≡ []
poly_lines-none bytes is nothing = rw (is, nothing) refl

-- a line that isn't empty is said
pub said-more : (first : ℕ) (bytes line : List ℕ) (lines : List (List ℕ)) → poly_lines bytes ≡ line ∷ lines →
    0 < length line → said_from first bytes ≡ (first, line) ∷ said (enumerate_from (first + 1) lines)
said-more first bytes line lines is some = rw (is, lt-ltb 0 (length line) some) refl

-- an empty one isn't
pub said-passed : (first : ℕ) (bytes line : List ℕ) (lines : List (List ℕ)) → poly_lines bytes ≡ line ∷ lines →
    length line ≡ 0 → said_from first bytes ≡ said (enumerate_from (first + 1) lines)
said-passed first bytes line lines is empty = rw (is, empty) refl
