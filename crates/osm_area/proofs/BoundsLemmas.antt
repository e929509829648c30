-- Edges and rings within bounds, and paths that go on from run to run and from group to group.
use Rattle.std.proofs.Common.{◌≡◌, ◌+◌, ◌<◌, ◌≤◌, ◌≤ℤ◌, ℕ, ℤ, zero, suc, Bool, true, false, cond, List, [], ◌∷◌, ◌++◌, length, take, drop, get_or, refl, ap, sym, arith, ◌∙◌, append_assoc}
use Rattle.std.specs.Prelude.{not, ◌&&◌, int_le, int_lt}
use Rattle.std.specs.List.{count_by, list_all}
use Rattle.std.proofs.Math.Seq.{drop-cons}
use Rattle.std.proofs.lemmas.Bool.{and_parts, and_from, leb-true, le-leb}
use Rattle.std.proofs.lemmas.Int.{ints}
use Rattle.std.proofs.lemmas.List.{append-nil, drop_all, take-append-drop}
use Rattle.std.proofs.lemmas.List.Folds.{list_all-append, list_all_more}
use Rattle.std.proofs.lemmas.List.Sums.{sum_by-append}
use Rattle.osm_entity.specs.declared.parts.Place.{Place}
use Rattle.osm_area.specs.Bounds.{bounds_hold, bounds_lie_east, bounds_reach, runs_fit, group_fits, groups_fit}
use Rattle.osm_area.specs.Edges.{counts, is_odd, lies_between, lies_east, steps}
use Rattle.osm_area.specs.Rings.{is_in_ring}
use Rattle.osm_area.specs.declared.bounds.Bounds.{Bounds}
use Rattle.osm_area.specs.declared.group.Group.{Group}
use Rattle.osm_area.proofs.ParityLemmas.{count_by-first, odd-sum, one_if, xor-rest}
use Rattle.osm_area.proofs.PathLemmas.{last_from-append}
use Rattle.osm_area.proofs.SideLemmas.{counts-west, path-east, xor-same}
use mathlib.Core.Bool.{beq}

-- a number that is no lower than one and no higher than another lies between them
pub lies_between-is : (low lat high : ℤ) → low ≤ℤ lat → lat ≤ℤ high → lies_between low lat high ≡ true
lies_between-is low lat high above below = grind (arith, ints)

-- what lies between two numbers lies between others further out
pub lies_between-wider : (low high lower higher lat : ℤ) → lower ≤ℤ low → high ≤ℤ higher →
    lies_between low lat high ≡ true → lies_between lower lat higher ≡ true
lies_between-wider low high lower higher lat above below within = grind (arith, ints)

-- what passes one test passes another that is weaker
pub list_all-weaker : (test weaker : Place → Bool) → ((place : Place) → test place ≡ true → weaker place ≡ true) →
    (path : List Place) → list_all test path ≡ true → list_all weaker path ≡ true
list_all-weaker test weaker weakens [] each = refl
list_all-weaker test weaker weakens (place ∷ path) each =
    let parts = and_parts (test place) (list_all test path) each in
    and_from _ _ (weakens place parts.0) (list_all-weaker test weaker weakens path parts.1)

-- an edge between two latitudes doesn't pass one that is outside of them
passes-none : (bottom top a b p : ℤ) → (int_le bottom p && int_lt p top) ≡ false →
    lies_between bottom a top ≡ true → lies_between bottom b top ≡ true → (int_le a p && int_lt p b) ≡ false
passes-none bottom top a b p out one other = grind (arith, ints)

-- bounds that don't reach a place west of their right side don't have it at their height
reach-height : (bottom lat top lon right : ℤ) →
    (int_le bottom lat && int_lt lat top && int_lt lon right) ≡ false → int_lt lon right ≡ true →
    (int_le bottom lat && int_lt lat top) ≡ false
reach-height bottom lat top lon right out west = grind (arith, ints)

-- what lies within sides lies east of no place that isn't west of the right one
side-none : (left right a p : ℤ) → int_lt p right ≡ false → lies_between left a right ≡ true → int_lt p a ≡ false
side-none left right a p out within = grind (arith, ints)

-- what bounds hold is between their sides
pub hold-parts : (bounds : Bounds) (place : Place) → bounds_hold bounds place ≡ true →
    (lies_between bounds.left place.lon bounds.right ≡ true) × (lies_between bounds.bottom place.lat bounds.top ≡ true)
hold-parts bounds place within =
    and_parts (lies_between bounds.left place.lon bounds.right) (lies_between bounds.bottom place.lat bounds.top) within

-- an edge within bounds that don't reach a place doesn't count for it
counts-none : (bounds : Bounds) (p a b : Place) → bounds_reach bounds p ≡ false → bounds_hold bounds a ≡ true →
    bounds_hold bounds b ≡ true → counts p (a, b) ≡ false
counts-none bounds p a b out one other = by_side (int_lt p.lon bounds.right) refl where
  by_side : (west : Bool) → int_lt p.lon bounds.right ≡ west → counts p (a, b) ≡ false
  by_side true west =
      let off = reach-height bounds.bottom p.lat bounds.top p.lon bounds.right out west in
      let from = (hold-parts bounds a one).1 in
      let to = (hold-parts bounds b other).1 in
      rw (
        passes-none bounds.bottom bounds.top a.lat b.lat p.lat off from to,
        passes-none bounds.bottom bounds.top b.lat a.lat p.lat off to from,
      ) refl
  by_side false west =
      counts-west p a b
      (side-none bounds.left bounds.right a.lon p.lon west (hold-parts bounds a one).0)
      (side-none bounds.left bounds.right b.lon p.lon west (hold-parts bounds b other).0)

-- no edge of a path within bounds that don't reach a place counts for it
pub path-none : (bounds : Bounds) (p : Place) (path : List Place) → bounds_reach bounds p ≡ false →
    list_all (bounds_hold bounds) path ≡ true → count_by (counts p) (steps path) ≡ 0
path-none bounds p [] out within = refl
path-none bounds p (a ∷ []) out within = refl
path-none bounds p (a ∷ b ∷ rest) out within =
    let first = and_parts (bounds_hold bounds a) (list_all (bounds_hold bounds) (b ∷ rest)) within in
    let second = and_parts (bounds_hold bounds b) (list_all (bounds_hold bounds) rest) first.1 in
    let none : ◌≡◌ {A = ℕ} (one_if (counts p (a, b))) 0 =
    rw (counts-none bounds p a b out first.0 second.0) refl in
    count_by-first (counts p) (a, b) (steps (b ∷ rest)) ∙
    omega (arith, none, path-none bounds p (b ∷ rest) out first.1)

-- a place within bounds that lie east of another does so too
hold-east : (left right lon p : ℤ) → int_lt p left ≡ true → lies_between left lon right ≡ true → int_lt p lon ≡ true
hold-east left right lon p east within = grind (arith, ints)

-- all of a path within bounds that lie east of a place does so
pub path-lies_east : (bounds : Bounds) (p : Place) (path : List Place) → bounds_lie_east bounds p ≡ true →
    list_all (bounds_hold bounds) path ≡ true → list_all (lies_east p) path ≡ true
path-lies_east bounds p path east =
    list_all-weaker (bounds_hold bounds) (lies_east p)
    (λ q within. hold-east bounds.left bounds.right q.lon p.lon east (hold-parts bounds q within).0) path

-- bounds that don't hold a place either lie east of it or don't reach it
out-none : (left right top bottom lon lat : ℤ) →
    (lies_between left lon right && lies_between bottom lat top) ≡ false → int_lt lon left ≡ false →
    (int_le bottom lat && int_lt lat top && int_lt lon right) ≡ false
out-none left right top bottom lon lat out east = grind (arith, ints)

-- a ring within bounds holds no place outside of them
pub is_in_ring-out : (bounds : Bounds) (p : Place) (ring : List Place) → bounds_hold bounds p ≡ false →
    list_all (bounds_hold bounds) ring ≡ true → is_in_ring ring p ≡ false
is_in_ring-out bounds p [] out within = refl
is_in_ring-out bounds p (first ∷ rest) out within = by_side (bounds_lie_east bounds p) refl where
  round : list_all (bounds_hold bounds) (first ∷ rest ++ first ∷ []) ≡ true
  round =
      let here = (and_parts (bounds_hold bounds first) (list_all (bounds_hold bounds) rest) within).0 in
      list_all-append (bounds_hold bounds) (first ∷ rest) (first ∷ []) ∙
      and_from _ _ within (and_from (bounds_hold bounds first) true here refl)

  by_side : (east : Bool) → bounds_lie_east bounds p ≡ east → is_in_ring (first ∷ rest) p ≡ false
  by_side true east =
      let all = path-lies_east bounds p (first ∷ rest ++ first ∷ []) east round in
      let last = last_from-append first rest first in
      rw last at (path-east p first (rest ++ first ∷ []) all) ∙ xor-same (int_le first.lat p.lat)
  by_side false east =
      let off = out-none bounds.left bounds.right bounds.top bounds.bottom p.lon p.lat out east in
      ap is_odd (path-none bounds p (first ∷ rest ++ first ∷ []) off round)

-- nothing is left of no places
drop-none : (k : ℕ) → ◌≡◌ {A = List Place} (drop k []) []
drop-none k = drop_all k [] (omega arith)

-- the edges of a path: those of its first places, and those of the others from the last of these on
steps-split : (k : ℕ) (path : List Place) → steps path ≡ steps (take (suc k) path) ++ steps (drop k path)
steps-split zero [] = refl
steps-split (suc k) [] = refl
steps-split zero (a ∷ []) = refl
steps-split (suc k) (a ∷ []) = rw (drop-none k) refl
steps-split zero (a ∷ b ∷ rest) = refl
steps-split (suc k) (a ∷ b ∷ rest) = ap (λ es. (a, b) ∷ es) (steps-split k (b ∷ rest))

-- the edges that count along a path in two parts
counted-split : (p : Place) (k : ℕ) (path : List Place) →
    is_odd (count_by (counts p) (steps path)) ≡
    not (beq (is_odd (count_by (counts p) (steps (take (suc k) path))))
    (is_odd (count_by (counts p) (steps (drop k path)))))
counted-split p k path =
    let sum = sum_by-append (λ e. cond (counts p e) 1 0) (steps (take (suc k) path)) (steps (drop k path)) in
    ap (λ es. is_odd (count_by (counts p) es)) (steps-split k path) ∙ ap is_odd sum ∙
    odd-sum (count_by (counts p) (steps (take (suc k) path))) (count_by (counts p) (steps (drop k path)))

-- the first part of what is left is counted
pub counted-on : (p : Place) (k : ℕ) (rest : List Place) (whole odd part new : Bool) →
    whole ≡ not (beq odd (is_odd (count_by (counts p) (steps rest)))) →
    part ≡ is_odd (count_by (counts p) (steps (take (suc k) rest))) → new ≡ not (beq odd part) →
    whole ≡ not (beq new (is_odd (count_by (counts p) (steps (drop k rest)))))
counted-on p k rest whole odd part new so_far is turned =
    so_far ∙ rw (counted-split p k rest, sym is, turned)
    (xor-rest odd part (is_odd (count_by (counts p) (steps (drop k rest)))))

-- a path of one place has no edges
steps-short : (path : List Place) → length path ≤ 1 → steps path ≡ []
steps-short [] short = refl
steps-short (a ∷ []) short = refl
steps-short (a ∷ b ∷ rest) short = absurd (omega arith)

-- where no edges are left, what was counted is all
pub counted-done : (p : Place) (rest : List Place) (whole odd : Bool) →
    whole ≡ not (beq odd (is_odd (count_by (counts p) (steps rest)))) → length rest ≤ 1 → odd ≡ whole
counted-done p rest whole odd so_far short = sym (so_far ∙ rw (steps-short rest short) (beq_false odd)) where
  beq_false : (b : Bool) → not (beq b false) ≡ b
  beq_false true = refl
  beq_false false = refl

-- what holds of each place of a path holds of each of its first
pub list_all-take : (test : Place → Bool) (k : ℕ) (path : List Place) → list_all test path ≡ true →
    list_all test (take k path) ≡ true
list_all-take test k path each =
    let parts = rw (take-append-drop k path) at (list_all-append test (take k path) (drop k path)) in
    (and_parts _ _ (sym parts ∙ each)).0

-- and of each of the others
pub list_all-drop : (test : Place → Bool) (k : ℕ) (path : List Place) → list_all test path ≡ true →
    list_all test (drop k path) ≡ true
list_all-drop test k path each =
    let parts = rw (take-append-drop k path) at (list_all-append test (take k path) (drop k path)) in
    (and_parts _ _ (sym parts ∙ each)).1

-- the next bounds fit the next run, and those after them the rest
pub runs_fit-next : (runs : List Bounds) (at : ℕ) (d : Bounds) (rest : List Place) → at < length runs →
    runs_fit (drop at runs) rest ≡ true →
    (list_all (bounds_hold (get_or runs at d)) (take 33 rest) ≡ true) ×
    (runs_fit (drop (at + 1) runs) (drop 32 rest) ≡ true)
runs_fit-next runs at d rest within fits =
    let next : suc at ≡ at + 1 = omega arith in
    let cut = drop-cons runs at d within ∙ ap (λ k. get_or runs at d ∷ drop k runs) next in
    and_parts _ _ (sym (ap (λ all. runs_fit all rest) cut) ∙ fits)

-- after the last run no edge is left
pub runs_fit-done : (runs : List Bounds) (at : ℕ) (rest : List Place) → length runs ≤ at →
    runs_fit (drop at runs) rest ≡ true → length rest ≤ 1
runs_fit-done runs at rest done fits = leb-true (length rest) 1 (rw (drop_all at runs done) at fits)

-- the next group fits its edges, and those after it the rest
pub groups_fit-next : (groups : List Group) (at : ℕ) (d : Group) (rest : List Place) → at < length groups →
    groups_fit (drop at groups) rest ≡ true →
    (group_fits (get_or groups at d) (take 1025 rest) ≡ true) ×
    (groups_fit (drop (at + 1) groups) (drop 1024 rest) ≡ true)
groups_fit-next groups at d rest within fits =
    let next : suc at ≡ at + 1 = omega arith in
    let cut = drop-cons groups at d within ∙ ap (λ k. get_or groups at d ∷ drop k groups) next in
    and_parts _ _ (sym (ap (λ all. groups_fit all rest) cut) ∙ fits)

-- after the last group no edge is left
pub groups_fit-done : (groups : List Group) (at : ℕ) (rest : List Place) → length groups ≤ at →
    groups_fit (drop at groups) rest ≡ true → length rest ≤ 1
groups_fit-done groups at rest done fits = leb-true (length rest) 1 (rw (drop_all at groups done) at fits)

-- a group fits where all of it lies within its bounds, and its runs fit
pub group_fits-parts : (group : Group) (path : List Place) → group_fits group path ≡ true →
    (list_all (bounds_hold group.bounds) path ≡ true) × (runs_fit group.runs path ≡ true)
group_fits-parts group path fits = and_parts _ _ fits

-- the places before one and that one
pub list_all-more : (test : Place → Bool) (path : List Place) (at : ℕ) (d : Place) → at < length path →
    list_all test (take at path) ≡ true → test (get_or path at d) ≡ true → list_all test (take (at + 1) path) ≡ true
list_all-more test path at d within before here =
    list_all_more test path at d within ∙ and_from _ _ before here

-- bounds up to a run, and those of what is left
pub runs_fit-more : (runs new more : List Bounds) (bounds : Bounds) (path rest : List Place) →
    ((more : List Bounds) → runs_fit more rest ≡ true → runs_fit (runs ++ more) path ≡ true) →
    list_all (bounds_hold bounds) (take 33 rest) ≡ true → new ≡ runs ++ bounds ∷ [] →
    runs_fit more (drop 32 rest) ≡ true → runs_fit (new ++ more) path ≡ true
runs_fit-more runs new more bounds path rest so_far within is fits =
    rw (is, append_assoc runs (bounds ∷ []) more) (so_far (bounds ∷ more) (and_from _ _ within fits))

-- the bounds of all runs
pub runs_fit-all : (runs : List Bounds) (path rest : List Place) →
    ((more : List Bounds) → runs_fit more rest ≡ true → runs_fit (runs ++ more) path ≡ true) → length rest ≤ 1 →
    runs_fit runs path ≡ true
runs_fit-all runs path rest so_far short =
    rw (append-nil runs) at (so_far [] (le-leb (length rest) 1 short))

-- groups up to a run, and those of what is left
pub groups_fit-more : (groups new more : List Group) (group : Group) (path rest : List Place) →
    ((more : List Group) → groups_fit more rest ≡ true → groups_fit (groups ++ more) path ≡ true) →
    list_all (bounds_hold group.bounds) (take 1025 rest) ≡ true → runs_fit group.runs (take 1025 rest) ≡ true →
    new ≡ groups ++ group ∷ [] → groups_fit more (drop 1024 rest) ≡ true → groups_fit (new ++ more) path ≡ true
groups_fit-more groups new more group path rest so_far whole runs is fits =
    rw (is, append_assoc groups (group ∷ []) more)
    (so_far (group ∷ more) (and_from _ _ (and_from _ _ whole runs) fits))

-- all groups
pub groups_fit-all : (groups : List Group) (path rest : List Place) →
    ((more : List Group) → groups_fit more rest ≡ true → groups_fit (groups ++ more) path ≡ true) → length rest ≤ 1 →
    groups_fit groups path ≡ true
groups_fit-all groups path rest so_far short =
    rw (append-nil groups) at (so_far [] (le-leb (length rest) 1 short))
