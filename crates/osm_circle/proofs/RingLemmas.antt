-- Senses over different pipes, and rings of them turned to their lowest pipe.
use Rattle.std.proofs.Common.{◌≡◌, ◌≢◌, ◌+◌, ◌<◌, ◌≤◌, ℕ, true, false, List, [], ◌∷◌, ◌++◌, length, map, take, drop, get_or, ap, sym, inl, inr, arith, ◌∙◌, subst}
use Rattle.std.specs.Prelude.{All, AllPairs}
use Rattle.std.specs.List.{IsDistinct}
use Rattle.std.proofs.Math.Dec.{eqb}
use Rattle.std.proofs.lemmas.Bool.Decides.{Decides-eqb, nat_tests}
use Rattle.std.proofs.lemmas.List.{get_or-map, get_or-drop, get_or_append_left, drop_more, length-append, length-drop, length-map, take-append-drop, map-append}
use Rattle.std.proofs.lemmas.List.Elements.{All-append, All-drop, All-take, All-weaker}
use Rattle.std.proofs.lemmas.List.Sorted.{IsPermutation-append_comm}
use Rattle.std.proofs.lemmas.Map.Keys.{IsDistinct-IsPermutation}
use Rattle.std.proofs.lemmas.Map.Made.{AllPairs-from_IsDistinct, IsDistinct-from_AllPairs}
use Rattle.osm_graph.specs.Pipes.{pipe_of}
use Rattle.osm_circle.specs.Circles.{IsBareCircle, IsWalk, first_pipe, is_spool}
use Rattle.osm_circle.specs.Search.{IsForward, IsRing, IsUsable}
use Rattle.osm_circle.specs.declared.circle.Sense.{Sense}
use Rattle.osm_graph.specs.declared.pipe.Pipe.{Pipe}
use Rattle.osm_circle.proofs.WalkLemmas.{ends_elsewhere, goes_down, walk_join, walk_part}

-- the pipes of senses
abbrev pub pipes_over : List Sense → List ℕ
pipes_over senses = map (λ s. s.pipe) senses

-- senses over different pipes have no pipe twice
pub pipes_distinct : (senses : List Sense) → AllPairs (λ s t. s.pipe ≢ t.pipe) senses →
    IsDistinct eqb (pipes_over senses)
pipes_distinct senses different =
    IsDistinct-from_AllPairs Decides-eqb (pipes_over senses) (λ i j d before below. λ same.
    let within : j < length senses = simp length-map at below in
    different i j (record { pipe = 0; along = false }) before within
    (sym (get_or-map (λ (s : Sense). s.pipe) senses i (record { pipe = 0; along = false }) d (omega arith)) ∙ same ∙
    get_or-map (λ (s : Sense). s.pipe) senses j (record { pipe = 0; along = false }) d within))

-- and the other way round
pipes_differ : (senses : List Sense) → IsDistinct eqb (pipes_over senses) → AllPairs (λ s t. s.pipe ≢ t.pipe) senses
pipes_differ senses distinct i j d before below same =
    AllPairs-from_IsDistinct Decides-eqb (pipes_over senses) distinct i j 0 before (simp length-map below)
    (get_or-map (λ (s : Sense). s.pipe) senses i d 0 (omega arith) ∙ same ∙
    sym (get_or-map (λ (s : Sense). s.pipe) senses j d 0 below))

-- equality of numbers goes both ways
eqb_flips : (a b : ℕ) → eqb a b ≡ eqb b a
eqb_flips a b = grind (arith, nat_tests)

-- senses that change places stay over different pipes
turned_differ : (xs ys : List Sense) → AllPairs (λ s t. s.pipe ≢ t.pipe) (xs ++ ys) →
    AllPairs (λ s t. s.pipe ≢ t.pipe) (ys ++ xs)
turned_differ xs ys different =
    pipes_differ (ys ++ xs)
    (subst (IsDistinct eqb) (sym (map-append (λ (s : Sense). s.pipe) ys xs))
    (IsDistinct-IsPermutation eqb eqb_flips _ _ (IsPermutation-append_comm (pipes_over xs) (pipes_over ys))
    (subst (IsDistinct eqb) (map-append (λ (s : Sense). s.pipe) xs ys) (pipes_distinct (xs ++ ys) different))))

-- the pairs of a list without its beginning, and without its end, are pairs of the list
pub pairs_drop : {X : Type 0} (R : X → X → Type 0) (n : ℕ) (xs : List X) → AllPairs R xs → AllPairs R (drop n xs)
pairs_drop R n xs pairs i j d before below =
    rw (get_or-drop n xs i d, get_or-drop n xs j d)
    (pairs (n + i) (n + j) d (omega (arith, before)) (omega (arith, simp length-drop at below)))

pub pairs_take : {X : Type 0} (R : X → X → Type 0) (xs ys : List X) → AllPairs R (xs ++ ys) → AllPairs R xs
pairs_take R xs ys pairs i j d before below =
    rw (sym (get_or_append_left xs ys d i (omega arith)), sym (get_or_append_left xs ys d j below))
    (pairs i j d before (omega (arith, length-append xs ys)))

-- a ring has two senses or more
ring_long : (pipes : List Pipe) (senses : List Sense) → IsForward pipes → IsRing pipes senses → 2 ≤ length senses
ring_long pipes [] forward ring = absurd (omega (arith, ring.long))
ring_long pipes (s ∷ []) forward ring =
    absurd
    (ends_elsewhere pipes s forward (ring.usable 0 s (omega arith)).known (ring.closed.1.0 ∙ sym ring.closed.1.1))
ring_long pipes (s ∷ t ∷ rest) forward ring = omega arith

-- a ring turned to its lowest pipe is a bare circle
pub bare_circle : (pipes : List Pipe) (senses : List Sense) (low : ℕ) → IsForward pipes → IsRing pipes senses →
    low < length senses → ((d : Sense) → All (λ s. (get_or senses low d).pipe ≤ s.pipe) senses) →
    IsBareCircle pipes (drop low senses ++ take low senses)
bare_circle pipes senses low forward ring within lowest =
    let start : List Sense = take low senses in
    let back : List Sense = drop low senses in
    let whole : start ++ back ≡ senses = take-append-drop low senses in
    let parts = walk_part pipes ring.closed.0 ring.closed.0 start back
    (subst (λ list. IsWalk pipes ring.closed.0 list ring.closed.0) (sym whole) ring.closed.1) in
    let closed : IsWalk pipes parts.0 (back ++ start) parts.0 =
    walk_join pipes parts.0 ring.closed.0 parts.0 back start parts.1.1 parts.1.0 in
    let usable : All (IsUsable pipes) (back ++ start) =
    All-append (IsUsable pipes) back start (All-drop (IsUsable pipes) low senses ring.usable)
    (All-take (IsUsable pipes) low senses ring.usable) in
    let known : All (λ s. s.pipe < length pipes) (back ++ start) =
    All-weaker (IsUsable pipes) (λ s. s.pipe < length pipes) (λ s can. can.known) (back ++ start) usable in
    let long : 2 ≤ length (back ++ start) =
    omega (
      arith,
      length-append back start,
      length-append start back,
      ap length whole,
      ring_long pipes senses forward ring,
    ) in
    let none : Sense = record { pipe = 0; along = false } in
    let first : first_pipe (back ++ start) ≡ (get_or senses low none).pipe =
    ap (λ (list : List Sense). first_pipe (list ++ start)) (drop_more senses low none within) in
    let least : All (λ s. (get_or senses low none).pipe ≤ s.pipe) (back ++ start) =
    All-append (λ s. (get_or senses low none).pipe ≤ s.pipe) back start
    (All-drop (λ s. (get_or senses low none).pipe ≤ s.pipe) low senses (lowest none))
    (All-take (λ s. (get_or senses low none).pipe ≤ s.pipe) low senses (lowest none)) in
    record {
      long = long;
      known = known;
      different = turned_differ start back (subst (AllPairs (λ s t. s.pipe ≢ t.pipe)) (sym whole) ring.different);
      closed = (parts.0, closed);
      along = elim (goes_down pipes parts.0 parts.0 (back ++ start) forward known closed) [
        | inl some ↦ some
        | inr low ↦ absurd (omega (arith, low, long))
      ];
      bare = All-weaker (IsUsable pipes) (λ s. s.along ≡ true → is_spool (pipe_of pipes s.pipe).store ≡ false)
          (λ s can. can.bare) (back ++ start) usable;
      lowest = subst (λ n. All (λ s. n ≤ s.pipe) (back ++ start)) (sym first) least;
    }
