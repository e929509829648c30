-- Rings that begin elsewhere, or are gone round the other way.
use Rattle.std.proofs.Common.{◌≡◌, ◌+◌, ℕ, Bool, true, false, List, [], ◌∷◌, ◌++◌, reverse, refl, ap, sym, ◌∙◌, append_assoc, add_comm}
use Rattle.std.specs.Prelude.{◌||◌}
use Rattle.std.specs.List.{count_by}
use Rattle.std.proofs.lemmas.List.{append-nil, reverse-append}
use Rattle.osm_entity.specs.declared.parts.Place.{Place}
use Rattle.osm_area.specs.Edges.{counts, counts_upward, is_odd, steps}
use Rattle.osm_area.specs.Rings.{is_in_ring}
use Rattle.osm_area.proofs.ParityLemmas.{count_by-first, count_by-more, one_if}
use Rattle.osm_area.proofs.PathLemmas.{last_from, last_from-append, last_from-one, steps-more}

-- how many edges along a path count
abbrev counted : Place → List Place → ℕ
counted p path = count_by (counts p) (steps path)

-- a path with one place more
counted-behind : (p place : Place) (rest : List Place) (end : Place) →
    counted p (place ∷ rest ++ end ∷ []) ≡ counted p (place ∷ rest) + one_if (counts p (last_from place rest, end))
counted-behind p place rest end =
    ap (λ es. count_by (counts p) es) (steps-more place rest end) ∙
    count_by-more (counts p) (steps (place ∷ rest)) (last_from place rest, end)

-- the first place of a ring put behind the others
is_in_ring-one : (first : Place) (rest : List Place) (p : Place) →
    is_in_ring (first ∷ rest) p ≡ is_in_ring (rest ++ first ∷ []) p
is_in_ring-one first [] p = refl
is_in_ring-one first (next ∷ rest) p =
    let other = counted-behind p next (rest ++ first ∷ []) next in
    let last : last_from next (rest ++ first ∷ []) ≡ first = last_from-append next rest first in
    let same = rw last at other in
    ap is_odd
    (count_by-first (counts p) (first, next) (steps (next ∷ rest ++ first ∷ [])) ∙
    add_comm (one_if (counts p (first, next))) (counted p (next ∷ rest ++ first ∷ [])) ∙ sym same)

-- a ring that begins at another of its places
pub is_in_ring-turned : (before after : List Place) (p : Place) →
    is_in_ring (before ++ after) p ≡ is_in_ring (after ++ before) p
is_in_ring-turned [] after p = ap (λ ring. is_in_ring ring p) (sym (append-nil after))
is_in_ring-turned (first ∷ before) after p =
    is_in_ring-one first (before ++ after) p ∙
    ap (λ ring. is_in_ring ring p) (append_assoc before after (first ∷ [])) ∙
    is_in_ring-turned before (after ++ first ∷ []) p ∙
    ap (λ ring. is_in_ring ring p) (append_assoc after (first ∷ []) before)

-- an edge counts from either end
counts-turned : (p a b : Place) → counts p (a, b) ≡ counts p (b, a)
counts-turned p a b = or_turned (counts_upward a b p) (counts_upward b a p) where
  or_turned : (x y : Bool) → (x || y) ≡ (y || x)
  or_turned true true = refl
  or_turned true false = refl
  or_turned false true = refl
  or_turned false false = refl

-- what stands before the first place of a path that is gone back
counted-first : (p a b : Place) (rest : List Place) →
    counted p ((reverse rest ++ b ∷ []) ++ a ∷ []) ≡ counted p (reverse rest ++ b ∷ []) + one_if (counts p (b, a))
counted-first p a b rest = by_first (reverse rest) where
  by_first : (back : List Place) →
      counted p ((back ++ b ∷ []) ++ a ∷ []) ≡ counted p (back ++ b ∷ []) + one_if (counts p (b, a))
  by_first [] = rw (last_from-one b) at (counted-behind p b [] a)
  by_first (place ∷ back) =
      rw (last_from-append place back b) at (counted-behind p place (back ++ b ∷ []) a)

-- as many edges count along a path that is gone back
counted-reverse : (p : Place) (path : List Place) → counted p (reverse path) ≡ counted p path
counted-reverse p [] = refl
counted-reverse p (a ∷ []) = refl
counted-reverse p (a ∷ b ∷ rest) =
    let back = counted-reverse p (b ∷ rest) in
    let begun = counted-first p a b rest in
    let turned = ap one_if (counts-turned p b a) in
    let one = reverse-append (a ∷ []) (b ∷ rest) in
    let two = reverse-append (b ∷ []) rest in
    let whole : reverse (a ∷ b ∷ rest) ≡ (reverse rest ++ b ∷ []) ++ a ∷ [] =
    one ∙ ap (λ path. path ++ a ∷ []) two in
    let others = sym (ap (λ path. counted p path) two) ∙ back in
    ap (λ path. counted p path) whole ∙ begun ∙ ap (λ n. n + one_if (counts p (b, a))) others ∙
    ap (λ n. counted p (b ∷ rest) + n) turned ∙ add_comm (counted p (b ∷ rest)) (one_if (counts p (a, b))) ∙
    sym (count_by-first (counts p) (a, b) (steps (b ∷ rest)))

-- a ring that is gone round the other way
pub is_in_ring-reverse : (ring : List Place) (p : Place) → is_in_ring (reverse ring) p ≡ is_in_ring ring p
is_in_ring-reverse [] p = refl
is_in_ring-reverse (first ∷ rest) p =
    let back = reverse-append (first ∷ []) rest in
    let turned = is_in_ring-turned (reverse rest) (first ∷ []) p in
    let ring : reverse (first ∷ rest ++ first ∷ []) ≡ first ∷ reverse rest ++ first ∷ [] =
    reverse-append (first ∷ rest) (first ∷ []) ∙ ap (λ path. first ∷ path) back in
    ap (λ ring. is_in_ring ring p) back ∙ turned ∙
    ap (λ path. is_odd (counted p path)) (sym ring) ∙ ap is_odd (counted-reverse p (first ∷ rest ++ first ∷ []))
