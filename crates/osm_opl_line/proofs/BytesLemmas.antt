-- What is wrong with the bytes of a line, from the marks of compared lanes.
use Rattle.std.proofs.Common.{◌≡◌, ◌∙◌, ℕ, zero, suc, ◌+◌, ◌%◌, ◌^◌, ◌<◌, ◌≤◌, Bool, true, false, List, length, take, drop, get_or, map, eqb, None, Some, Fits, w8, refl, sym, ap, subst, arith, inl, inr}
use Rattle.std.specs.Prelude.{if◌then◌else◌, ◌||◌, not}
use Rattle.std.specs.List.{list_any}
use Rattle.std.specs.Str.{IsCharBoundary, IsUtf8, is_utf8}
use Rattle.std.proofs.lemmas.Bool.{agree_below, agree_below_at, and_parts, cases_lt, eqb-true, ltb-true, not-true}
use Rattle.std.proofs.lemmas.List.{length-drop, length-map, length-take-le, get_or-drop, get_or-take, get_or_past, take-append-drop}
use Rattle.std.proofs.lemmas.List.Elements.{All-from_get_or}
use Rattle.std.proofs.lemmas.List.Folds.{list_any-append, list_any_none}
use Rattle.std.proofs.lemmas.Simd.{map-map, mask_l-mod, length-chunk, none_from_empty_mask}
use Rattle.std.proofs.lemmas.Str.{IsCharBoundary-after_ascii, IsCharBoundary-before_ascii, IsCharBoundary-end, IsCharBoundary-start, IsUtf8-append, IsUtf8-drop, IsUtf8-from_ascii, IsUtf8-from_is_utf8, IsUtf8-take, is_utf8-from_IsUtf8}
use lib.Lanes.{chunk, mask_l, top}
use Rattle.osm_entity.specs.declared.verdict.Cause.{Cause}
use Rattle.osm_entity.specs.declared.verdict.Cause.TheVariants.{BadText, BadField}
use Rattle.osm_opl_line.specs.Bytes.{ArePlain, byte_fault, is_plain_byte}
use Rattle.osm_opl_line.specs.Line.{LineValue, Bad, is_control}

-- where no lane of a load is marked, its bytes are plain
pub plain-from_mask : (line : List ℕ) (at n : ℕ) (f : ℕ → ℕ) (z : List ℕ) → at + n ≤ length line → n ≤ 64 →
    ((k : ℕ) → Fits w8 (get_or line k 0)) → z ≡ map f (chunk at n line) →
    agree_below (λ x. top 7 (f x) || is_plain_byte x) (λ _. true) 256 ≡ true →
    eqb (mask_l (map (top 7) z) % 2 ^ 64) 0 ≡ true → ArePlain line at (at + n)
plain-from_mask line at n f z room few fits lanes all none k from to =
    let v = chunk at n line in
    let stops = λ (x : ℕ). top 7 (f x) in
    let size : length (map stops v) ≤ 64 = omega (arith, length-map v stops, length-chunk at n line room) in
    let mask : mask_l (map (top 7) z) % 2 ^ 64 ≡ mask_l (map stops v) =
    ap (λ l. mask_l (map (top 7) l) % 2 ^ 64) lanes ∙ ap (λ l. mask_l l % 2 ^ 64) (map-map (top 7) f v)
    ∙ mask_l-mod (map stops v) 64 size in
    let clear = none_from_empty_mask stops line at n 0 room (sym mask ∙ eqb-true _ 0 none) k from to in
    sym (ap (λ b. b || is_plain_byte (get_or line k 0)) clear)
    ∙ agree_below_at (λ x. stops x || is_plain_byte x) (λ _. true) 256 (get_or line k 0) all (fits k).fits

-- bytes that are plain up to a place, and plain from there or before on, are plain
pub plain-covered : (line : List ℕ) (seen from end : ℕ) → from ≤ seen → ArePlain line 0 seen → ArePlain line from end →
    ArePlain line 0 end
plain-covered line seen from end before front back k low below =
    elim (cases_lt k seen) [ inl early ↦ front k low early | inr late ↦ back k (omega arith) below ]

-- a plain byte is ASCII
plain-ascii : (b : ℕ) → is_plain_byte b ≡ true → b < 128
plain-ascii b plain = ltb-true b 128 (and_parts (not (is_control b)) _ plain).1

-- bytes that are plain from the first to the last
abbrev AllPlain : List ℕ → Type 0
AllPlain bytes = ArePlain bytes 0 (length bytes)

-- a place past the end has the byte 0
ascii-at : (bytes : List ℕ) (k : ℕ) → AllPlain bytes → get_or bytes k 0 < 128
ascii-at bytes k plain =
    elim (cases_lt k (length bytes)) [
      | inl within ↦ plain-ascii (get_or bytes k 0) (plain k (omega arith) within)
      | inr past ↦ rw (get_or_past bytes k 0 past) (omega arith)
    ]

-- plain bytes are UTF-8
text-plain : (bytes : List ℕ) → AllPlain bytes → IsUtf8 bytes
text-plain bytes plain = IsUtf8-from_ascii bytes (λ k. ascii-at bytes k plain)

-- and have no control byte
free-plain : (bytes : List ℕ) → AllPlain bytes → list_any is_control bytes ≡ false
free-plain bytes plain =
    list_any_none is_control bytes (All-from_get_or (λ b. is_control b ≡ false) bytes 0 (λ k within.
    not-true (is_control (get_or bytes k 0)) (and_parts (not (is_control (get_or bytes k 0))) _
    (plain k (omega arith) within)).0))

-- so they have no fault
fault-plain : (bytes : List ℕ) → AllPlain bytes → byte_fault bytes ≡ None
fault-plain bytes plain =
    rw (is_utf8-from_IsUtf8 bytes (text-plain bytes plain), free-plain bytes plain) refl

-- nor do bytes that are plain up to their end
pub fault-none : (line : List ℕ) (n : ℕ) → n ≤ length line → ArePlain line 0 n → length (drop n line) ≡ 0 →
    None ≡ byte_fault line
fault-none line n fits plain none =
    sym (fault-plain line (λ k low below. plain k low (omega (arith, below, fits, none, length-drop n line))))

-- the first bytes, if plain, are plain by themselves
plain-first : (line : List ℕ) (n : ℕ) → n ≤ length line → ArePlain line 0 n → AllPlain (take n line)
plain-first line n fits plain k low below =
    let within : k < n = omega (arith, below, length-take-le n line fits) in
    ap is_plain_byte (get_or-take n line k 0 within) ∙ plain k low within

-- and so are the last
plain-last : (line : List ℕ) (n : ℕ) → n ≤ length line → ArePlain line n (length line) → AllPlain (drop n line)
plain-last line n fits plain k low below =
    ap is_plain_byte (get_or-drop n line k 0)
    ∙ plain (n + k) (omega arith) (omega (arith, below, length-drop n line))

-- a text may be cut behind a plain byte
boundary-behind : (line : List ℕ) (n : ℕ) → IsUtf8 line → n ≤ length line → ArePlain line 0 n → IsCharBoundary line n
boundary-behind line zero text fits plain = IsCharBoundary-start line text
boundary-behind line (suc n) text fits plain =
    subst (IsCharBoundary line) (omega arith)
    (IsCharBoundary-after_ascii line n text (omega (arith, fits))
    (plain-ascii (get_or line n 0) (plain n (omega arith) (omega arith))))

-- and before one
boundary-before : (line : List ℕ) (n : ℕ) → n ≤ length line → ArePlain line n (length line) → IsCharBoundary line n
boundary-before line n fits plain =
    elim (cases_lt n (length line)) [
      | inl within ↦
          IsCharBoundary-before_ascii line n within
          (plain-ascii (get_or line n 0) (plain n (omega arith) within))
      | inr past ↦ subst (IsCharBoundary line) (omega (arith, past, fits)) (IsCharBoundary-end line)
    ]

-- two tests are one, where each is passed if the other is
same-test : (a b : Bool) → (a ≡ true → b ≡ true) → (b ≡ true → a ≡ true) → a ≡ b
same-test true b there back = sym (there refl)
same-test false true there back = back refl
same-test false false there back = refl

-- two lists are UTF-8 alike, where each is if the other is
same-text : (xs ys : List ℕ) → (IsUtf8 xs → IsUtf8 ys) → (IsUtf8 ys → IsUtf8 xs) → is_utf8 xs ≡ is_utf8 ys
same-text xs ys there back =
    same-test (is_utf8 xs) (is_utf8 ys) (λ is. is_utf8-from_IsUtf8 ys (there (IsUtf8-from_is_utf8 xs is)))
    (λ is. is_utf8-from_IsUtf8 xs (back (IsUtf8-from_is_utf8 ys is)))

-- bytes behind plain ones have the fault of all
pub fault-behind : (line : List ℕ) (n : ℕ) → n ≤ length line → ArePlain line 0 n →
    byte_fault (drop n line) ≡ byte_fault line
fault-behind line n fits plain =
    let first = plain-first line n fits plain in
    let text : is_utf8 (drop n line) ≡ is_utf8 line =
    same-text (drop n line) line
    (λ is. subst IsUtf8 (take-append-drop n line)
    (IsUtf8-append (take n line) (drop n line) (text-plain (take n line) first) is))
    (λ is. IsUtf8-drop line n is (boundary-behind line n is fits plain)) in
    let free : list_any is_control (drop n line) ≡ list_any is_control line =
    sym
    (ap (list_any is_control) (sym (take-append-drop n line))
    ∙ list_any-append is_control (take n line) (drop n line)
    ∙ ap (λ b. b || list_any is_control (drop n line)) (free-plain (take n line) first)) in
    rw (text, free) refl

-- bytes before plain ones have the fault of all
pub fault-before : (line : List ℕ) (n : ℕ) → n ≤ length line → ArePlain line n (length line) →
    byte_fault (take n line) ≡ byte_fault line
fault-before line n fits plain =
    let last = plain-last line n fits plain in
    let text : is_utf8 (take n line) ≡ is_utf8 line =
    same-text (take n line) line
    (λ is. subst IsUtf8 (take-append-drop n line)
    (IsUtf8-append (take n line) (drop n line) is (text-plain (drop n line) last)))
    (λ is. IsUtf8-take line n is (boundary-before line n fits plain)) in
    let free : list_any is_control (take n line) ≡ list_any is_control line =
    sym
    (ap (list_any is_control) (sym (take-append-drop n line))
    ∙ list_any-append is_control (take n line) (drop n line)
    ∙ ap (λ b. list_any is_control (take n line) || b) (free-plain (drop n line) last)
    ∙ or-false (list_any is_control (take n line))) in
    rw (text, free) refl
  where
    or-false : (b : Bool) → (b || false) ≡ b
    or-false true = refl
    or-false false = refl

-- the fault of bytes decides what a line says
decided : (text control : Bool) (said : LineValue) (cause : Cause) →
    Some cause ≡ (if not text then Some BadText else if control then Some BadField else None) →
    (if not text then Bad BadText else if control then Bad BadField else said) ≡ Bad cause
decided true true said cause is = cc
decided true false said cause is = absurd cc
decided false control said cause is = cc

-- without one a line says what its pieces say
undecided : (text control : Bool) (said : LineValue) →
    None ≡ (if not text then Some BadText else if control then Some BadField else None) →
    (text ≡ true) × ((if not text then Bad BadText else if control then Bad BadField else said) ≡ said)
undecided true true said is = absurd cc
undecided true false said is = (refl, refl)
undecided false control said is = absurd cc

-- a line says the fault of its bytes
pub said-fault : (line : List ℕ) (said : LineValue) (cause : Cause) → Some cause ≡ byte_fault line →
    (if not (is_utf8 line) then Bad BadText else if list_any is_control line then Bad BadField else said) ≡ Bad cause
said-fault line said cause is = decided (is_utf8 line) (list_any is_control line) said cause is

-- without a fault it is text, and says what its pieces say
pub said-free : (line : List ℕ) (said : LineValue) → None ≡ byte_fault line →
    (is_utf8 line ≡ true) ×
    ((if not (is_utf8 line) then Bad BadText else if list_any is_control line then Bad BadField else said) ≡ said)
said-free line said is = undecided (is_utf8 line) (list_any is_control line) said is
