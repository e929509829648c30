-- Words that are cut behind or at an ASCII character: what is cut off is UTF-8.
use Rattle.std.proofs.Common.{◌≡◌, ◌<◌, ◌≤◌, ◌+◌, ◌-◌, ℕ, Bool, true, false, List, length, take, drop, get_or, None, Some, arith, refl, sym, ap, subst, nat_lt}
use Rattle.std.specs.Prelude.{if◌then◌else◌, ◌==◌}
use Rattle.std.specs.List.{position, position_or_len}
use Rattle.std.specs.Str.{IsUtf8}
use Rattle.std.proofs.lemmas.Bool.{and_parts, eqb-true, ltb-true}
use Rattle.std.proofs.lemmas.List.{take_rest}
use Rattle.std.proofs.lemmas.List.Sums.{passes_at_first}
use Rattle.std.proofs.lemmas.Str.{IsUtf8-take, IsUtf8-drop, IsCharBoundary-before_ascii, IsCharBoundary-after_ascii}
use Rattle.osm_words.specs.Words.{begins_task, is_cut_sign}

-- a number kept by a test is that number, and the test passed
kept : (test : Bool) (n k : ℕ) → Some k ≡ (if test then Some n else None) → (k ≡ n) × (test ≡ true)
kept true n k is = (cc, refl)
kept false n k is = cc

-- UTF-8 that is cut at its first = is UTF-8 on both sides
pub IsUtf8-cut : (word : List ℕ) (at : ℕ) → Some at ≡ position is_cut_sign word → IsUtf8 word →
    IsUtf8 (take at word) × IsUtf8 (take (length word - (at + 1)) (drop (at + 1) word))
IsUtf8-cut word at is whole =
    let found = kept (nat_lt (position_or_len is_cut_sign word) (length word)) (position_or_len is_cut_sign word)
    at is in
    let inside : position_or_len is_cut_sign word < length word =
    ltb-true (position_or_len is_cut_sign word) (length word) found.1 in
    let within : at < length word = omega (arith, found.0, inside) in
    let sign : get_or word (position_or_len is_cut_sign word) 0 ≡ 61 =
    eqb-true (get_or word (position_or_len is_cut_sign word) 0) 61 (passes_at_first is_cut_sign word 0 inside) in
    let ascii : get_or word at 0 < 128 = rw (found.0, sign) (omega arith) in (
      IsUtf8-take word at whole (IsCharBoundary-before_ascii word at within ascii),
      rw take_rest (IsUtf8-drop word (at + 1) whole (IsCharBoundary-after_ascii word at whole within ascii)),
    )

-- the second byte of a word that begins a task is a minus
second_minus : (word : List ℕ) → begins_task word ≡ true → get_or word 1 0 ≡ 45
second_minus word begins =
    eqb-true (get_or word 1 0) 45 (and_parts (get_or word 0 0 == 45) (get_or word 1 0 == 45) begins).1

-- the name of a task is UTF-8
pub name-IsUtf8 : (word : List ℕ) → begins_task word ≡ true → 2 ≤ length word → IsUtf8 word →
    IsUtf8 (take (length word - 2) (drop 2 word))
name-IsUtf8 word begins long whole =
    let within : 1 < length word = omega (arith, long) in
    let ascii : get_or word 1 0 < 128 = rw (second_minus word begins) (omega arith) in
    rw take_rest (IsUtf8-drop word 2 whole (IsCharBoundary-after_ascii word 1 whole within ascii))
