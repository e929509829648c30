-- The edges along a path, taken one by one, and those of a ring: the path's, and the one that closes it.
use Rattle.std.proofs.Common.{◌≡◌, ◌+◌, ◌-◌, ◌<◌, ◌≤◌, ℕ, Bool, true, false, cond, List, [], ◌∷◌, ◌++◌, length, take, drop, get_or, refl, ap, sym, arith, ◌∙◌}
use Rattle.std.specs.Prelude.{not}
use Rattle.std.specs.List.{count_by, zip}
use Rattle.std.proofs.lemmas.Grind.{common_steps, get_or_after_one}
use Rattle.std.proofs.lemmas.List.{take_all}
use Rattle.std.proofs.lemmas.List.Sums.{sum_by_more}
use Rattle.std.proofs.lemmas.Slice.Zip.{length-zip, get_or-zip}
use Rattle.osm_entity.specs.declared.parts.Place.{Place}
use Rattle.osm_area.specs.Edges.{counts, is_odd, steps}
use Rattle.osm_area.specs.Rings.{edges, is_in_ring}
use Rattle.osm_area.proofs.ParityLemmas.{odd-more, count_by-more}
use mathlib.Core.Bool.{beq}

-- the number of edges along a path
pub length-steps : (path : List Place) → length (steps path) ≡ length path - 1
length-steps path = grind (arith, common_steps, length-zip path (drop 1 path))

-- the edge that ends at a place of a path
step_at : (path : List Place) (at : ℕ) (d : Place) → 1 ≤ at → at < length path →
    get_or (steps path) (at - 1) (d, d) ≡ (get_or path (at - 1) d, get_or path at d)
step_at path at d begun within =
    let behind : length (drop 1 path) ≡ length path - 1 = grind (arith, common_steps) in
    let whole = get_or-zip path (drop 1 path) (at - 1) (d, d) (omega arith) (omega arith) in
    let same : 1 + (at - 1) ≡ at = omega arith in
    whole ∙ ap (λ x. (get_or path (at - 1) d, x)) (rw same at (get_or_after_one path (at - 1) d))

-- the edges up to the next place of a path
pub counted-more : (p : Place) (path : List Place) (at : ℕ) (d : Place) → 1 ≤ at → at < length path →
    count_by (counts p) (take (at + 1 - 1) (steps path)) ≡
    count_by (counts p) (take (at - 1) (steps path)) + cond (counts p (get_or path (at - 1) d, get_or path at d)) 1 0
counted-more p path at d begun within =
    let within' : at - 1 < length (steps path) = omega (arith, length-steps path) in
    let more = sum_by_more (λ e. cond (counts p e) 1 0) (steps path) (at - 1) (d, d) within' in
    let next : at - 1 + 1 ≡ at + 1 - 1 = omega arith in
    rw next at (rw (step_at path at d begun within) at more)

-- an edge that counts turns odd and even
pub odd-turned : (p : Place) (path : List Place) (at : ℕ) (d : Place) (old new : Bool) → 1 ≤ at → at < length path →
    old ≡ is_odd (count_by (counts p) (take (at - 1) (steps path))) →
    counts p (get_or path (at - 1) d, get_or path at d) ≡ true → new ≡ not old →
    new ≡ is_odd (count_by (counts p) (take (at + 1 - 1) (steps path)))
odd-turned p path at d old new begun within so_far counted is =
    let more = rw counted at (counted-more p path at d begun within) in
    let odd = odd-more (count_by (counts p) (take (at - 1) (steps path))) true in
    is ∙ ap not so_far ∙ sym (ap is_odd more ∙ odd ∙ true_beq _)
  where
    true_beq : (b : Bool) → not (beq true b) ≡ not b
    true_beq true = refl
    true_beq false = refl

-- one that doesn't count leaves it
pub odd-kept : (p : Place) (path : List Place) (at : ℕ) (d : Place) (old new : Bool) → 1 ≤ at → at < length path →
    old ≡ is_odd (count_by (counts p) (take (at - 1) (steps path))) →
    counts p (get_or path (at - 1) d, get_or path at d) ≡ false → new ≡ old →
    new ≡ is_odd (count_by (counts p) (take (at + 1 - 1) (steps path)))
odd-kept p path at d old new begun within so_far passed is =
    let more = rw passed at (counted-more p path at d begun within) in
    is ∙ so_far ∙ ap is_odd (omega (arith, more))

-- all edges of a path
pub take-steps : (path : List Place) (at : ℕ) → 1 ≤ at → length path ≤ at → take (at - 1) (steps path) ≡ steps path
take-steps path at begun within = take_all (at - 1) (steps path) (omega (arith, length-steps path))

-- the last place of a path that begins with a place
pub last_from : Place → List Place → Place
last_from place [] = place
last_from place (next ∷ rest) = last_from next rest

-- it is the one at the end
pub last_from-is : (place : Place) (rest : List Place) (d : Place) →
    last_from place rest ≡ get_or (place ∷ rest) (length rest) d
unfolding last_from
last_from-is place [] d = refl
last_from-is place (next ∷ rest) d = last_from-is next rest d ∙ grind (arith, common_steps)

-- a path with one place more has one edge more
pub steps-more : (place : Place) (rest : List Place) (end : Place) →
    zip (place ∷ rest ++ end ∷ []) (rest ++ end ∷ []) ≡ zip (place ∷ rest) rest ++ (last_from place rest, end) ∷ []
unfolding last_from
steps-more place [] end = refl
steps-more place (next ∷ rest) end = ap (λ es. (place, next) ∷ es) (steps-more next rest end)

-- the edges of a ring: those along its places, and the one from the last to the first
pub edges-ring : (first : Place) (rest : List Place) (d : Place) →
    edges (first ∷ rest) ≡
    steps (first ∷ rest) ++ (get_or (first ∷ rest) (length (first ∷ rest) - 1) d, first) ∷ []
edges-ring first rest d =
    let end : length (first ∷ rest) - 1 ≡ length rest = grind (arith, common_steps) in
    let last = last_from-is first rest d in
    rw (end, sym last) (steps-more first rest first)

-- a place is inside where the closing edge and the others together count odd
pub is_in_ring-closed : (p first : Place) (rest : List Place) (d : Place) →
    is_in_ring (first ∷ rest) p ≡
    not (beq (counts p (get_or (first ∷ rest) (length (first ∷ rest) - 1) d, first))
    (is_odd (count_by (counts p) (steps (first ∷ rest)))))
is_in_ring-closed p first rest d =
    let last = get_or (first ∷ rest) (length (first ∷ rest) - 1) d in
    let more = count_by-more (counts p) (steps (first ∷ rest)) (last, first) in
    ap (λ es. is_odd (count_by (counts p) es)) (edges-ring first rest d) ∙ ap is_odd more ∙
    odd-more (count_by (counts p) (steps (first ∷ rest))) (counts p (last, first))

-- the same of a ring that has a place
pub is_in_ring-path : (p : Place) (path : List Place) (d : Place) → 0 < length path →
    is_in_ring path p ≡
    not (beq (counts p (get_or path (length path - 1) d, get_or path 0 d)) (is_odd (count_by (counts p) (steps path))))
is_in_ring-path p [] d some = absurd (omega arith)
is_in_ring-path p (first ∷ rest) d some = is_in_ring-closed p first rest d

-- the last place of a path that ends at a place is that place
pub last_from-append : (place : Place) (rest : List Place) (end : Place) → last_from place (rest ++ end ∷ []) ≡ end
unfolding last_from
last_from-append place [] end = refl
last_from-append place (next ∷ rest) end = last_from-append next rest end

-- a path of one place ends at it
pub last_from-one : (place : Place) → last_from place [] ≡ place
unfolding last_from
last_from-one place = refl

-- a path of more places ends where the others do
pub last_from-next : (place next : Place) (rest : List Place) → last_from place (next ∷ rest) ≡ last_from next rest
unfolding last_from
last_from-next place next rest = refl
