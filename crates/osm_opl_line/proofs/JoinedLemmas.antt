-- Parts joined by a byte: they are cut again into the same parts, and keep what all parts keep.
use Rattle.std.proofs.Common.{◌≡◌, ℕ, ◌<◌, List, [], ◌∷◌, length, Bool, true, false, arith, refl, ap, ◌∙◌}
use Rattle.std.specs.Prelude.{All, nat_lt, ◌==◌}
use Rattle.std.specs.List.{AllByRecursion, filter, slice_split, join_with_byte}
use Rattle.std.specs.Str.{IsUtf8}
use Rattle.std.proofs.lemmas.Bool.{lt-ltb}
use Rattle.std.proofs.lemmas.List.{length-append}
use Rattle.std.proofs.lemmas.List.Elements.{All-nil, All-cons, All-append}
use Rattle.std.proofs.lemmas.List.Splits.{slice_split_at, slice_split_none}
use Rattle.std.proofs.lemmas.Str.{IsUtf8-nil, IsUtf8-append}
use Rattle.osm_opl_line.specs.Contents.{parts_of}
use Rattle.osm_opl_line.proofs.PlainTextLemmas.{utf8-low}

-- no byte passes a test
abbrev pub HasNone : (ℕ → Bool) → List ℕ → Type 0
HasNone test bytes = All (λ b. test b ≡ false) bytes

-- parts without the byte that joins them are cut again
pub slice_split-joined : (test : ℕ → Bool) (c : ℕ) (part : List ℕ) (parts : List (List ℕ)) → test c ≡ true →
    AllByRecursion (HasNone test) (part ∷ parts) →
    slice_split test (join_with_byte c (part ∷ parts)) ≡ part ∷ parts
slice_split-joined test c part [] cut each = slice_split_none test part each.0
slice_split-joined test c part (next ∷ parts) cut each =
    slice_split_at test part c (join_with_byte c (next ∷ parts)) each.0 cut
    ∙ ap (λ more. part ∷ more) (slice_split-joined test c next parts cut each.1)

-- parts that aren't empty are all kept
pub filter-nonempty : (parts : List (List ℕ)) → AllByRecursion (λ part. 0 < length part) parts →
    filter (λ part. nat_lt 0 (length part)) parts ≡ parts
filter-nonempty [] each = refl
filter-nonempty (part ∷ parts) each = rw (lt-ltb 0 (length part) each.0, filter-nonempty parts each.1) refl

-- each byte of the joined parts is one of a part, or joins them
pub joined-all : (P : ℕ → Type 0) (c : ℕ) (parts : List (List ℕ)) → P c → AllByRecursion (All P) parts →
    All P (join_with_byte c parts)
joined-all P c [] here each = All-nil P
joined-all P c (part ∷ []) here each = each.0
joined-all P c (part ∷ next ∷ parts) here each =
    All-append P part (c ∷ join_with_byte c (next ∷ parts)) each.0
    (All-cons P c (join_with_byte c (next ∷ parts)) here (joined-all P c (next ∷ parts) here each.1))

-- UTF-8 joined by an ASCII byte is UTF-8
pub joined-utf8 : (c : ℕ) (parts : List (List ℕ)) → c < 128 → AllByRecursion IsUtf8 parts →
    IsUtf8 (join_with_byte c parts)
joined-utf8 c [] ascii each = IsUtf8-nil
joined-utf8 c (part ∷ []) ascii each = each.0
joined-utf8 c (part ∷ next ∷ parts) ascii each =
    let byte : IsUtf8 (c ∷ []) = utf8-low (c ∷ []) (All-cons (λ b. b < 128) c [] ascii (All-nil (λ b. b < 128))) in
    IsUtf8-append part (c ∷ join_with_byte c (next ∷ parts)) each.0
    (IsUtf8-append (c ∷ []) (join_with_byte c (next ∷ parts)) byte (joined-utf8 c (next ∷ parts) ascii each.1))

-- a first part with a byte, joined with others, has one
joined-nonempty : (c : ℕ) (part : List ℕ) (parts : List (List ℕ)) → 0 < length part →
    0 < length (join_with_byte c (part ∷ parts))
joined-nonempty c part [] some = some
joined-nonempty c part (next ∷ parts) some =
    omega (arith, length-append part (c ∷ join_with_byte c (next ∷ parts)))

-- a content that isn't empty is cut at its commas
parts_of-nonempty : (content : List ℕ) → 0 < length content → parts_of content ≡ slice_split (λ b. b == 44) content
parts_of-nonempty [] some = absurd (omega arith)
parts_of-nonempty (b ∷ bytes) some = refl

-- parts without commas, joined by commas, are the parts
pub parts_of-joined : (parts : List (List ℕ)) → AllByRecursion (λ part. 0 < length part) parts →
    AllByRecursion (HasNone (λ b. b == 44)) parts → parts_of (join_with_byte 44 parts) ≡ parts
parts_of-joined [] some none = refl
parts_of-joined (part ∷ parts) some none =
    parts_of-nonempty (join_with_byte 44 (part ∷ parts)) (joined-nonempty 44 part parts some.0)
    ∙ slice_split-joined (λ b. b == 44) 44 part parts refl none
