-- Edges of which all lies east of a place, or none: the first count where they pass its latitude, the others never.
use Rattle.std.proofs.Common.{◌≡◌, ◌-◌, ◌*◌, ◌<◌, ◌≤◌, ◌≤ℤ◌, ◌<ℤ◌, ◌-ℤ◌, ◌*ℤ◌, ℤ, suc, pos, negsuc, Bool, true, false, List, [], ◌∷◌, length, get_or, refl, ap, sym, arith, ◌∙◌, add_comm, mul-le-mul}
use Rattle.std.specs.Prelude.{not, ◌&&◌, ◌||◌, int_le, int_lt}
use Rattle.std.specs.List.{count_by, list_all}
use Rattle.std.proofs.lemmas.Bool.{and_parts}
use Rattle.std.proofs.lemmas.Grind.{common_steps}
use Rattle.std.proofs.lemmas.Int.{ints}
use Rattle.osm_entity.specs.declared.parts.Place.{Place}
use Rattle.osm_area.specs.Edges.{counts, counts_upward, is_odd, is_west, lies_east, passes_upward, steps}
use Rattle.osm_area.proofs.ParityLemmas.{count_by-first, odd-more, one_if}
use Rattle.osm_area.proofs.PathLemmas.{last_from, last_from-is, last_from-next, last_from-one}
use mathlib.Core.Bool.{beq}

-- tests of two numbers
less-true : (a b : ℤ) → a <ℤ b → int_lt a b ≡ true
less-true a b less = grind (arith, ints)

less-false : (a b : ℤ) → b ≤ℤ a → int_lt a b ≡ false
less-false a b most = grind (arith, ints)

-- a place at a part of an edge's height, by how far it and the edge's end are east of the edge's beginning: it is west of
-- an edge of which both ends are further east
east-less : (offset height part width : ℤ) → pos 0 ≤ℤ part → part <ℤ height → offset <ℤ pos 0 → offset <ℤ width →
    int_lt (offset *ℤ height) (part *ℤ width) ≡ true
east-less (pos a) height part width from below east wide = absurd (omega (arith, ints))
east-less (negsuc a) height (negsuc t) width from below east wide = absurd (omega (arith, ints))
east-less (negsuc a) (negsuc h) (pos t) width from below east wide = absurd (omega (arith, ints))
east-less (negsuc a) (pos h) (pos t) (pos w) from below east wide =
    let some : 0 < h = omega (arith, ints) in
    less-true (negsuc a *ℤ pos h) (pos t *ℤ pos w) (omega (arith, ints))
east-less (negsuc a) (pos h) (pos t) (negsuc w) from below east wide =
    let high : suc t ≤ h = omega (arith, ints) in
    let far : suc w ≤ suc a = omega (arith, ints) in
    let size : suc t * suc w ≤ h * suc a = mul-le-mul high far in
    less-true (negsuc a *ℤ pos h) (pos t *ℤ negsuc w) (omega (arith, ints))

-- and it isn't west of an edge of which no end is further east
west-not_less : (offset height part width : ℤ) → pos 0 ≤ℤ part → part <ℤ height → pos 0 ≤ℤ offset →
    width ≤ℤ offset → int_lt (offset *ℤ height) (part *ℤ width) ≡ false
west-not_less (negsuc a) height part width from below west wide = absurd (omega (arith, ints))
west-not_less (pos a) height (negsuc t) width from below west wide = absurd (omega (arith, ints))
west-not_less (pos a) (negsuc h) (pos t) width from below west wide = absurd (omega (arith, ints))
west-not_less (pos a) (pos h) (pos t) (negsuc w) from below west wide =
    less-false (pos a *ℤ pos h) (pos t *ℤ negsuc w) (omega (arith, ints))
west-not_less (pos a) (pos h) (pos t) (pos w) from below west wide =
    let high : t ≤ h = omega (arith, ints) in
    let far : w ≤ a = omega (arith, ints) in
    let size : t * w ≤ h * a = mul-le-mul high far in
    less-false (pos a *ℤ pos h) (pos t *ℤ pos w) (omega (arith, ints))

-- what follows from a test says nothing more beside it
and-follows : (a b : Bool) → (a ≡ true → b ≡ true) → (a && b) ≡ a
and-follows true b follows = follows refl
and-follows false b follows = refl

-- what is false where a test holds is false beside it
and-denied : (a b : Bool) → (a ≡ true → b ≡ false) → (a && b) ≡ false
and-denied true b denied = denied refl
and-denied false b denied = refl

-- an edge of which both ends lie east of a place counts upward where it passes its latitude
counts_upward-east : (p low high : Place) → lies_east p low ≡ true → lies_east p high ≡ true →
    counts_upward low high p ≡ passes_upward low high p
counts_upward-east p low high one other =
    and-follows (passes_upward low high p) (is_west low high p) (λ passes.
    let parts = and_parts (int_le low.lat p.lat) (int_lt p.lat high.lat) passes in
    let from = parts.0 in
    let below = parts.1 in
    east-less (p.lon -ℤ low.lon) (high.lat -ℤ low.lat) (p.lat -ℤ low.lat) (high.lon -ℤ low.lon)
    (omega (arith, ints)) (omega (arith, ints)) (omega (arith, ints)) (omega (arith, ints)))

-- an edge of which no end lies east of a place doesn't count upward
counts_upward-west : (p low high : Place) → lies_east p low ≡ false → lies_east p high ≡ false →
    counts_upward low high p ≡ false
counts_upward-west p low high one other =
    and-denied (passes_upward low high p) (is_west low high p) (λ passes.
    let parts = and_parts (int_le low.lat p.lat) (int_lt p.lat high.lat) passes in
    let from = parts.0 in
    let below = parts.1 in
    west-not_less (p.lon -ℤ low.lon) (high.lat -ℤ low.lat) (p.lat -ℤ low.lat) (high.lon -ℤ low.lon)
    (omega (arith, ints)) (omega (arith, ints)) (omega (arith, ints)) (omega (arith, ints)))

-- an edge of which no end lies east of a place doesn't count
pub counts-west : (p a b : Place) → lies_east p a ≡ false → lies_east p b ≡ false → counts p (a, b) ≡ false
counts-west p a b one other = rw (counts_upward-west p a b one other, counts_upward-west p b a other one) refl

-- a latitude is passed one way or the other by what has its ends on different sides
passes-sides : (a b p : ℤ) →
    ((int_le a p && int_lt p b) || (int_le b p && int_lt p a)) ≡ not (beq (int_le a p) (int_le b p))
passes-sides a b p = rw (above a, above b) (by_sides (int_le a p) (int_le b p)) where
  above : (q : ℤ) → int_lt p q ≡ not (int_le q p)
  above q = grind (arith, ints)

  by_sides : (x y : Bool) → ((x && not y) || (y && not x)) ≡ not (beq x y)
  by_sides true true = refl
  by_sides true false = refl
  by_sides false true = refl
  by_sides false false = refl

-- an edge of which both ends lie east of a place counts where they lie on different sides of its latitude
counts-east : (p a b : Place) → lies_east p a ≡ true → lies_east p b ≡ true →
    counts p (a, b) ≡ not (beq (int_le a.lat p.lat) (int_le b.lat p.lat))
counts-east p a b one other =
    rw (counts_upward-east p a b one other, counts_upward-east p b a other one) (passes-sides a.lat b.lat p.lat)

-- nothing differs from itself
pub xor-same : (b : Bool) → not (beq b b) ≡ false
xor-same true = refl
xor-same false = refl

-- where one differs from another and that from a third
xor-step : (a b c : Bool) → not (beq (not (beq a b)) (not (beq b c))) ≡ not (beq a c)
xor-step true true true = refl
xor-step true true false = refl
xor-step true false true = refl
xor-step true false false = refl
xor-step false true true = refl
xor-step false true false = refl
xor-step false false true = refl
xor-step false false false = refl

-- along a path east of a place an odd number of edges count where its ends lie on different sides of the latitude
pub path-east : (p place : Place) (rest : List Place) → list_all (lies_east p) (place ∷ rest) ≡ true →
    is_odd (count_by (counts p) (steps (place ∷ rest))) ≡
    not (beq (int_le place.lat p.lat) (int_le (last_from place rest).lat p.lat))
path-east p place [] east = rw (last_from-one place) (sym (xor-same (int_le place.lat p.lat)))
path-east p place (next ∷ rest) east =
    let first = and_parts (lies_east p place) (list_all (lies_east p) (next ∷ rest)) east in
    let second = and_parts (lies_east p next) (list_all (lies_east p) rest) first.1 in
    let here = counts-east p place next first.0 second.0 in
    let others = path-east p next rest first.1 in
    let count = count_by (counts p) (steps (next ∷ rest)) in
    ap is_odd
    (count_by-first (counts p) (place, next) (steps (next ∷ rest)) ∙
    add_comm (one_if (counts p (place, next))) count) ∙
    odd-more count (counts p (place, next)) ∙
    rw (here, others, last_from-next place next rest)
    (xor-step (int_le place.lat p.lat) (int_le next.lat p.lat) (int_le (last_from next rest).lat p.lat))

-- the same of a path that has a place
pub path-east_ends : (p : Place) (path : List Place) (d : Place) → 0 < length path →
    list_all (lies_east p) path ≡ true →
    is_odd (count_by (counts p) (steps path)) ≡
    not (beq (int_le (get_or path 0 d).lat p.lat) (int_le (get_or path (length path - 1) d).lat p.lat))
path-east_ends p [] d some east = absurd (omega arith)
path-east_ends p (place ∷ rest) d some east =
    let end : length (place ∷ rest) - 1 ≡ length rest = grind (arith, common_steps) in
    let last = last_from-is place rest d in
    rw (end, sym last) (path-east p place rest east)
