-- How the pieces of bytes follow from their first byte and their first space or tab.
use Rattle.std.proofs.Common.{◌≡◌, ◌<◌, ◌+◌, ◌-◌, ◌∷◌, [], ℕ, Bool, true, false, List, length, take, drop, get_or, None, Some, refl, arith}
use Rattle.std.specs.Prelude.{nat_lt, if◌then◌else◌}
use Rattle.std.specs.List.{position, position_or_len, slice_split, filter}
use Rattle.std.specs.Str.{IsUtf8}
use Rattle.std.proofs.lemmas.Bool.Decides.{nat_tests}
use Rattle.std.proofs.lemmas.Bool.{ltb-true, ltb-false, lt-ltb}
use Rattle.std.proofs.lemmas.List.{take_rest, drop_more}
use Rattle.std.proofs.lemmas.List.Elements.{All-from_get_or}
use Rattle.std.proofs.lemmas.List.Sums.{fails_before_first, passes_at_first}
use Rattle.std.proofs.lemmas.List.Splits.{slice_split-cons_yes, slice_split-cons_no, slice_split_first, slice_split_none}
use Rattle.std.proofs.lemmas.Option.{cond_some}
use Rattle.std.proofs.lemmas.Str.{IsUtf8-drop, IsCharBoundary-after_ascii}
use Rattle.osm_opl_line.specs.Fields.{is_blank, pieces}

-- UTF-8 after a first ASCII character is UTF-8
pub IsUtf8-after_first : (bytes : List ℕ) → 0 < length bytes → get_or bytes 0 0 < 128 → IsUtf8 bytes →
    IsUtf8 (take (length bytes - 1) (drop 1 bytes))
IsUtf8-after_first bytes some ascii whole =
    rw take_rest (IsUtf8-drop bytes 1 whole (IsCharBoundary-after_ascii bytes 0 whole some ascii))

-- a space or tab is an ASCII character
pub ascii-from_blank : (b : ℕ) → is_blank b ≡ true → b < 128
ascii-from_blank b blank = grind (arith, nat_tests)

-- a space or tab parts nothing from what follows it
pieces-blank : (b : ℕ) (bytes : List ℕ) → is_blank b ≡ true → pieces (b ∷ bytes) ≡ pieces bytes
pieces-blank b bytes blank = rw (slice_split-cons_yes is_blank b bytes blank) refl

-- a part with a byte is a piece
pieces-kept : (letter : ℕ) (content : List ℕ) (parts : List (List ℕ)) →
    filter (λ part. nat_lt 0 (length part)) ((letter ∷ content) ∷ parts)
    ≡ (letter ∷ content) ∷ filter (λ part. nat_lt 0 (length part)) parts
pieces-kept letter content parts = rw (lt-ltb 0 (length (letter ∷ content)) (omega arith)) refl

-- one space or tab more is skipped
pub pieces-skip : (bytes : List ℕ) (at : ℕ) → at < length bytes → is_blank (get_or bytes at 0) ≡ true →
    pieces (drop at bytes) ≡ pieces (drop (at + 1) bytes)
pieces-skip bytes at within blank =
    rw (drop_more bytes at 0 within) (pieces-blank (get_or bytes at 0) (drop (at + 1) bytes) blank)

-- UTF-8 after a space or tab is UTF-8
pub IsUtf8-after_blank : (bytes : List ℕ) (at : ℕ) → at < length bytes → is_blank (get_or bytes at 0) ≡ true →
    IsUtf8 bytes → IsUtf8 (drop (at + 1) bytes)
IsUtf8-after_blank bytes at within blank whole =
    IsUtf8-drop bytes (at + 1) whole
    (IsCharBoundary-after_ascii bytes at whole within (ascii-from_blank (get_or bytes at 0) blank))

-- the first place of a space or tab, and that it is one
blank-at_position : (bytes : List ℕ) (k : ℕ) → position is_blank bytes ≡ Some k →
    (position_or_len is_blank bytes ≡ k) × (k < length bytes) × (is_blank (get_or bytes k 0) ≡ true)
blank-at_position bytes k found =
    let first : ℕ = position_or_len is_blank bytes in
    let kept = cond_some (nat_lt first (length bytes)) first k found in
    let within = ltb-true first (length bytes) kept.0 in (
      kept.1,
      omega (arith, kept.1),
      rw kept.1 at (passes_at_first is_blank bytes 0 within),
    )

-- the bytes before the first space or tab end the piece of the byte before them
pub pieces-cut : (bytes : List ℕ) (k : ℕ) → position is_blank bytes ≡ Some k → (letter : ℕ) → is_blank letter ≡ false →
    pieces (letter ∷ bytes) ≡ (letter ∷ take k bytes) ∷ pieces (take (length bytes - (k + 1)) (drop (k + 1) bytes))
pieces-cut bytes k found letter plain =
    let place = blank-at_position bytes k found in
    let cut = rw place.0 at (slice_split_first is_blank bytes 0 (omega (arith, place.0, place.1))) in
    rw (take_rest, slice_split-cons_no is_blank letter bytes plain, cut)
    (pieces-kept letter (take k bytes) (slice_split is_blank (drop (k + 1) bytes)))

-- a choice that gives nothing failed
false-from_none : (b : Bool) (x : ℕ) → (if b then Some x else None) ≡ None → b ≡ false
false-from_none true x none = cc
false-from_none false x none = refl

-- where no space or tab follows, all bytes are one piece
pub pieces-last : (bytes : List ℕ) → position is_blank bytes ≡ None → (letter : ℕ) → is_blank letter ≡ false →
    pieces (letter ∷ bytes) ≡ (letter ∷ bytes) ∷ []
pieces-last bytes none letter plain =
    let first : ℕ = position_or_len is_blank bytes in
    let at_end = ltb-false first (length bytes) (false-from_none (nat_lt first (length bytes)) first none) in
    let plain_bytes = All-from_get_or (λ b. is_blank b ≡ false) bytes 0
    (λ i below. fails_before_first is_blank bytes i 0 (omega arith)) in
    let one = slice_split_none is_blank bytes plain_bytes in
    rw (slice_split-cons_no is_blank letter bytes plain, one) (pieces-kept letter bytes [])
