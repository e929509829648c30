use Rattle.std.proofs.Common.{◌≡◌, ◌<◌, ◌≤◌, ◌+◌, ◌-◌, ℕ, List, [], ◌∷◌, length, take, drop, get_or, None, Some, Err, arith, refl, sym, ◌∙◌}
use Rattle.std.specs.List.{position}
use Rattle.std.specs.Str.{IsUtf8}
use Rattle.std.proofs.lemmas.Bool.{eqb-true}
use Rattle.std.proofs.lemmas.Bool.Decides.{nat_tests}
use Rattle.std.proofs.lemmas.List.{take_rest}
use Rattle.osm_entity.specs.declared.kind.Kind.{Kind}
use Rattle.osm_entity.specs.declared.verdict.Cause.TheVariants.{BadField}
use Rattle.osm_text.specs.Numbers.{whole}
use Rattle.osm_opl_line.specs.Contents.{is_at_sign, kind_by, member_in, member_of, text_in}
use Rattle.osm_opl_line.proofs.PartLemmas.{IsUtf8-cut, list_any-found, list_any-not_found, position-some}
use Rattle.osm_text.proofs.SplitLemmas.{IsUtf8-behind}
use Rattle.osm_opl_line.proofs.parting.cut_member.Goals as goal

-- a list without its first element, as a slice
abbrev behind : List ℕ → List ℕ
behind part = take (length part - 1) (drop 1 part)

-- a member without @ is bad
member_in-no_at_sign : (part : List ℕ) → 1 ≤ length part → None ≡ position is_at_sign (behind part) →
    member_in part ≡ Err BadField
member_in-no_at_sign [] some is = absurd (omega arith)
member_in-no_at_sign (letter ∷ rest) some is =
    let all : behind (letter ∷ rest) ≡ rest = take_rest (letter ∷ rest) 1 in
    rw (list_any-not_found is_at_sign rest (rw all at is)) refl

-- a member is cut at its first @
member_in-cut : (part : List ℕ) (kind : Kind) (at : ℕ) → 1 ≤ length part → Some kind ≡ kind_by (get_or part 0 0) →
    Some at ≡ position is_at_sign (behind part) →
    member_in part
    ≡ member_of (Some kind) (whole (take at (behind part)))
    (text_in (take (length (behind part) - (at + 1)) (drop (at + 1) (behind part))))
member_in-cut [] kind at some kind_is is = absurd (omega arith)
member_in-cut (letter ∷ rest) kind at some kind_is is =
    let all : behind (letter ∷ rest) ≡ rest = take_rest (letter ∷ rest) 1 in
    let here = rw all at is in
    let found = (position-some is_at_sign rest at here).0 in
    rw (all, take_rest, list_any-found is_at_sign rest at here, ← kind_is, found) refl

-- the letter of a kind is ASCII
ascii-kind : (letter : ℕ) (kind : Kind) → Some kind ≡ kind_by letter → letter < 128
ascii-kind letter kind is = grind (arith, nat_tests)

-- the role of a member in UTF-8 is UTF-8
IsUtf8-role : (part : List ℕ) (kind : Kind) (at : ℕ) → 1 ≤ length part → Some kind ≡ kind_by (get_or part 0 0) →
    Some at ≡ position is_at_sign (behind part) → IsUtf8 part →
    IsUtf8 (take (length (behind part) - (at + 1)) (drop (at + 1) (behind part)))
IsUtf8-role [] kind at some kind_is is whole_text = absurd (omega arith)
IsUtf8-role (letter ∷ rest) kind at some kind_is is whole_text =
    let all : behind (letter ∷ rest) ≡ rest = take_rest (letter ∷ rest) 1 in
    let text = IsUtf8-behind letter rest (ascii-kind letter kind kind_is) whole_text in
    (IsUtf8-cut is_at_sign (behind (letter ∷ rest)) at (λ b found. omega (arith, eqb-true b 64 found)) is
    (rw all text)).1

pub returns-in_err-at-clause-none : goal.returns-in_err-at-clause-none
returns-in_err-at-clause-none c =
    rw c.from_residual-in_err-at.ensures
    (member_in-no_at_sign c.args.part.now c.in-len1-up.len_at_least (sym c.in_err-at.was ∙ c.find_at_sign.ensures))

pub returns-clause-some : goal.returns-clause-some
returns-clause-some c =
    member_in-cut c.args.part.now c.in_ok-kind.kind c.in_ok-at.at c.in-len1-up.len_at_least c.in_ok-kind.ensures
    c.in_ok-at.ensures

pub returns-clause-utf8 : goal.returns-clause-utf8
returns-clause-utf8 c =
    IsUtf8-role c.args.part.now c.in_ok-kind.kind c.in_ok-at.at c.in-len1-up.len_at_least c.in_ok-kind.ensures
    c.in_ok-at.ensures
