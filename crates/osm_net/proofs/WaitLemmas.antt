-- Tasks that all wait for each other: following their waits comes round in a bare circle.
use Rattle.std.proofs.Common.{◌≡◌, ℕ, zero, suc, ◌<◌, ◌≤◌, ◌+◌, ◌-◌, ◌⊎◌, inl, inr, List, [], ◌∷◌, length, take, drop, ◌++◌, get_or, Bool, true, false, refl, sym, ap, subst, ◌∙◌, arith}
use Rattle.std.specs.Prelude.{◌≢◌, All, AllPairs}
use Rattle.std.specs.List.{AllByRecursion, IsDistinct}
use Rattle.std.proofs.Math.Dec.{eqb}
use Rattle.std.proofs.lemmas.Bool.{cases_eq, cases_lt, eq-eqb, eqb-true, ne_eqb}
use Rattle.std.proofs.lemmas.List.Folds.{Any-from_list_any}
use Rattle.std.proofs.lemmas.Map.Steps.{length-le_from_distinct_below}
use Rattle.osm_circle.specs.Circles.{IsBareCircle, IsWalk, sense_start, sense_end}
use Rattle.osm_circle.specs.Search.{IsForward, IsRing, IsUsable}
use Rattle.osm_circle.specs.declared.circle.Sense.{Sense}
use Rattle.osm_circle.proofs.RingLemmas.{bare_circle}
use Rattle.osm_graph.specs.declared.pipe.Pipe.{Pipe}

-- each task that waits starts a sense, over a pipe that no other waits at from another end, to a task that waits too
pub record AreWaiting (tasks : ℕ) (pipes : List Pipe) (waits : ℕ → Type 0) (full : ℕ → Bool) (sense : ℕ → Sense) :
    Type 0
  where
    pub below : (t : ℕ) → waits t → t < tasks
    pub starts : (t : ℕ) → waits t → sense_start pipes (sense t) ≡ t
    pub usable : (t : ℕ) → waits t → IsUsable pipes (sense t)
    pub along : (t : ℕ) → waits t → (sense t).along ≡ full (sense t).pipe
    pub onward : (t : ℕ) → waits t → waits (sense_end pipes (sense t))

-- ---- searches

-- the least number with a property that this number has
pub record IsLeast (test : ℕ → Bool) (n : ℕ) : Type 0 where
  pub least : ℕ
  pub within : least ≤ n
  pub has : test least ≡ true
  pub before : (k : ℕ) → k < least → test k ≡ false

least_at : (n : ℕ) (test : ℕ → Bool) (first : Bool) → test 0 ≡ first → test n ≡ true → IsLeast test n
least_at n test true is has = record {
  least = 0;
  within = omega arith;
  has = is;
  before = λ k below. absurd (omega (arith, below));
}
least_at zero test false is has = cc
least_at (suc n) test false is has = later (least_at n (λ k. test (suc k)) (test 1) refl has)
  where
    earlier : (more : IsLeast (λ k. test (suc k)) n) (k : ℕ) → k < suc more.least → test k ≡ false
    earlier more zero below = is
    earlier more (suc k) below = more.before k (omega (arith, below))

    later : IsLeast (λ k. test (suc k)) n → IsLeast test (suc n)
    later more = record {
      least = suc more.least;
      within = omega (arith, more.within);
      has = more.has;
      before = λ k below. earlier more k below;
    }

least_of : (test : ℕ → Bool) (n : ℕ) → test n ≡ true → IsLeast test n
least_of test n has = least_at n test (test 0) refl has

-- two places of a list have one number
pub record Repeats (xs : List ℕ) : Type 0 where
  pub i : ℕ
  pub j : ℕ
  pub apart : i < j
  pub below : j < length xs
  pub same : get_or xs i 0 ≡ get_or xs j 0

find_again : (x : ℕ) (xs : List ℕ) →
    AllByRecursion (λ y. eqb x y ≡ false) xs ⊎ ((k : ℕ) × ((k < length xs) × (x ≡ get_or xs k 0)))
find_again x [] = inl tt
find_again x (y ∷ ys) = elim (cases_eq x y) [
  | inl is ↦ inr (0, (omega arith, is))
  | inr not ↦ elim (find_again x ys) [
    | inl none ↦ inl (ne_eqb x y not, none)
    | inr at ↦ inr (suc at.0, (omega (arith, at.1.0), at.1.1))
  ]
]

repeats_or : (xs : List ℕ) → IsDistinct eqb xs ⊎ Repeats xs
unfolding IsDistinct
repeats_or [] = inl tt
repeats_or (x ∷ xs) = elim (find_again x xs) [
  | inr at ↦ inr (record { i = 0; j = suc at.0; apart = omega arith; below = omega (arith, at.1.0); same = at.1.1 })
  | inl none ↦ elim (repeats_or xs) [
    | inl distinct ↦ inl (none, distinct)
    | inr two ↦ inr (record {
      i = suc two.i;
      j = suc two.j;
      apart = omega (arith, two.apart);
      below = omega (arith, two.below);
      same = two.same;
    })
  ]
]

-- the place of the sense over the lowest pipe
pub record IsLowest (senses : List Sense) : Type 0 where
  pub place : ℕ
  pub below : place < length senses
  pub lowest : (d : Sense) → All (λ s. (get_or senses place d).pipe ≤ s.pipe) senses

lowest_of : (s : Sense) (rest : List Sense) → IsLowest (s ∷ rest)
lowest_of s [] = record { place = 0; below = omega arith; lowest = λ d k e below. here k e below } where
  here : (k : ℕ) (e : Sense) → k < 1 → s.pipe ≤ (get_or (s ∷ []) k e).pipe
  here zero e below = omega arith
  here (suc k) e below = absurd (omega (arith, below))
lowest_of s (t ∷ rest) = by_case (lowest_of t rest) where
  first : (more : IsLowest (t ∷ rest)) → s.pipe ≤ (get_or (t ∷ rest) more.place s).pipe → (k : ℕ) (e : Sense) →
      k < length (s ∷ t ∷ rest) → s.pipe ≤ (get_or (s ∷ t ∷ rest) k e).pipe
  first more less zero e below = omega arith
  first more less (suc k) e below = omega (arith, less, more.lowest s k e (omega (arith, below)))

  later : (more : IsLowest (t ∷ rest)) → (get_or (t ∷ rest) more.place s).pipe < s.pipe → (d : Sense) (k : ℕ) (e :
      Sense) →
      k < length (s ∷ t ∷ rest) → (get_or (t ∷ rest) more.place d).pipe ≤ (get_or (s ∷ t ∷ rest) k e).pipe
  later more less d zero e below = let one = more.lowest d more.place s more.below in omega (arith, less, one)
  later more less d (suc k) e below = more.lowest d k e (omega (arith, below))

  by_case : IsLowest (t ∷ rest) → IsLowest (s ∷ t ∷ rest)
  by_case more = elim (cases_lt (get_or (t ∷ rest) more.place s).pipe s.pipe) [
    | inl less ↦ record {
      place = suc more.place;
      below = omega (arith, more.below);
      lowest = λ d k e below. later
          more less d k e below;
    }
    | inr not ↦ record {
      place = 0;
      below = omega arith;
      lowest = λ d k e below. first more (omega (arith, not)) k e
          below;
    }
  ]

-- ---- following waits

module _ (tasks : ℕ) (pipes : List Pipe) (waits : ℕ → Type 0) (full : ℕ → Bool) (sense : ℕ → Sense)
    (are : AreWaiting tasks pipes waits full sense) where
  -- the task for which a task waits
  abbrev pub waited : ℕ → ℕ
  waited t = sense_end pipes (sense t)

  -- the task after n waits
  abbrev pub after_waits : ℕ → ℕ → ℕ
  after_waits t zero = t
  after_waits t (suc n) = after_waits (waited t) n

  -- the senses of n waits, and the tasks that wait
  abbrev pub trail : ℕ → ℕ → List Sense
  trail t zero = []
  trail t (suc n) = sense t ∷ trail (waited t) n

  abbrev pub waiters : ℕ → ℕ → List ℕ
  waiters t zero = []
  waiters t (suc n) = t ∷ waiters (waited t) n

  after_waits_wait : (t n : ℕ) → waits t → waits (after_waits t n)
  after_waits_wait t zero w = w
  after_waits_wait t (suc n) w = after_waits_wait (waited t) n (are.onward t w)

  waits_add : (t n k : ℕ) → after_waits (after_waits t n) k ≡ after_waits t (n + k)
  waits_add t zero k = let e : k ≡ 0 + k = omega arith in ap (after_waits t) e
  waits_add t (suc n) k = let e : suc (n + k) ≡ suc n + k = omega arith in waits_add (waited t) n k ∙ ap (after_waits
      t) e

  trail_length : (t n : ℕ) → length (trail t n) ≡ n
  trail_length t zero = refl
  trail_length t (suc n) = let more = trail_length (waited t) n in omega (arith, more)

  trail_walk : (t n : ℕ) → waits t → IsWalk pipes t (trail t n) (after_waits t n)
  trail_walk t zero w = refl
  trail_walk t (suc n) w = (are.starts t w, trail_walk (waited t) n (are.onward t w))

  trail_at : (t n k : ℕ) (d : Sense) → k < n → get_or (trail t n) k d ≡ sense (after_waits t k)
  trail_at t zero k d below = absurd (omega (arith, below))
  trail_at t (suc n) zero d below = refl
  trail_at t (suc n) (suc k) d below = trail_at (waited t) n k d (omega (arith, below))

  waiters_length : (t n : ℕ) → length (waiters t n) ≡ n
  waiters_length t zero = refl
  waiters_length t (suc n) = let more = waiters_length (waited t) n in omega (arith, more)

  waiters_at : (t n k d : ℕ) → k < n → get_or (waiters t n) k d ≡ after_waits t k
  waiters_at t zero k d below = absurd (omega (arith, below))
  waiters_at t (suc n) zero d below = refl
  waiters_at t (suc n) (suc k) d below = waiters_at (waited t) n k d (omega (arith, below))

  start_by : (a b : Bool) (p q : ℕ) → a ≡ b → p ≡ q →
      sense_start pipes (record { pipe = p; along = a }) ≡ sense_start pipes (record { pipe = q; along = b })
  start_by a b p q e f = λ i. sense_start pipes (record { pipe = f i; along = e i })

  -- two tasks that wait at one pipe are one
  one_waiter : (t u : ℕ) → waits t → waits u → (sense t).pipe ≡ (sense u).pipe → t ≡ u
  one_waiter t u w v same =
      let along : (sense t).along ≡ (sense u).along = are.along t w ∙ ap full same ∙ sym (are.along u v) in
      sym (are.starts t w) ∙ start_by (sense t).along (sense u).along (sense t).pipe (sense u).pipe along same
      ∙ are.starts u v

  -- a task that waits comes back to itself after some waits
  pub record ComesBack : Type 0 where
    pub task : ℕ
    pub waiting : waits task
    pub count : ℕ
    pub back : after_waits task (suc count) ≡ task

  comes_back : (t : ℕ) → waits t → ComesBack
  comes_back t w = elim (repeats_or (waiters t (suc tasks))) [
    | inl distinct ↦
        let few : length (waiters t (suc tasks)) ≤ tasks =
        length-le_from_distinct_below (waiters t (suc tasks)) tasks distinct (λ q has.
        let found = Any-from_list_any (eqb q) (waiters t (suc tasks)) has in
        let there : found.0 < suc tasks = subst (λ n. found.0 < n) (waiters_length t (suc tasks)) found.2 in
        let is : q ≡ after_waits t found.0 =
        eqb-true q found.1 found.4 ∙ sym found.3 ∙ waiters_at t (suc tasks) found.0 found.1 there in
        subst (λ n. n < tasks) (sym is) (are.below (after_waits t found.0) (after_waits_wait t found.0 w))) in
        absurd (omega (arith, few, waiters_length t (suc tasks)))
    | inr two ↦
        let below : two.j < suc tasks = subst (λ n. two.j < n) (waiters_length t (suc tasks)) two.below in
        let apart = two.apart in
        let same : after_waits t two.i ≡ after_waits t two.j =
        sym (waiters_at t (suc tasks) two.i 0 (omega (arith, below, apart))) ∙ two.same
        ∙ waiters_at t (suc tasks) two.j 0 below in
        let more : two.i + suc (two.j - two.i - 1) ≡ two.j = omega (arith, apart) in
        record {
          task = after_waits t two.i;
          waiting = after_waits_wait t two.i w;
          count = two.j - two.i - 1;
          back = waits_add t two.i (suc (two.j - two.i - 1)) ∙ ap (after_waits t) more ∙ sym same;
        }
  ]

  -- the fewest waits after which a task comes back
  fewest : (t n : ℕ) → after_waits t (suc n) ≡ t → IsLeast (λ k. eqb (after_waits t (suc k)) t) n
  fewest t n back = least_of (λ k. eqb (after_waits t (suc k)) t) n (eq-eqb (after_waits t (suc n)) t back)

  -- the waits round are over different pipes
  round_differs : (t q : ℕ) → waits t → after_waits t (suc q) ≡ t →
      ((k : ℕ) → k < q → eqb (after_waits t (suc k)) t ≡ false) →
      AllPairs (λ s u. s.pipe ≢ u.pipe) (trail t (suc q))
  round_differs t q w back before i j d apart below = λ same.
      let within : j < suc q = subst (λ n. j < n) (trail_length t (suc q)) below in
      let one : after_waits t i ≡ after_waits t j =
      one_waiter (after_waits t i) (after_waits t j) (after_waits_wait t i w) (after_waits_wait t j w)
      (ap (λ (s : Sense). s.pipe) (sym (trail_at t (suc q) i d (omega (arith, apart, within)))) ∙ same
      ∙ ap (λ (s : Sense). s.pipe) (trail_at t (suc q) j d within)) in
      let left : ℕ = suc q - j in
      let rest : j + left ≡ suc q = omega (arith, within) in
      let home : after_waits t (i + left) ≡ t =
      sym (waits_add t i left) ∙ ap (λ u. after_waits u left) one ∙ waits_add t j left ∙ ap (after_waits t) rest ∙
      back in
      let short : suc (i + left - 1) ≡ i + left = omega (arith, within) in
      let none : eqb (after_waits t (suc (i + left - 1))) t ≡ false = before (i + left - 1) (omega (
        arith,
        apart,
        within,
      )) in
      let some : eqb (after_waits t (suc (i + left - 1))) t ≡ true =
      eq-eqb (after_waits t (suc (i + left - 1))) t (ap (after_waits t) short ∙ home) in
      cc

  ring_of : (t q : ℕ) → waits t → after_waits t (suc q) ≡ t →
      ((k : ℕ) → k < q → eqb (after_waits t (suc k)) t ≡ false) → IsRing pipes (trail t (suc q))
  ring_of t q w back before = record {
    long = omega (arith, trail_length t (suc q));
    usable = λ k d below.
        let within : k < suc q = subst (λ n. k < n) (trail_length t (suc q)) below in
        subst (IsUsable pipes) (sym (trail_at t (suc q) k d within))
        (are.usable (after_waits t k) (after_waits_wait t k w));
    different = round_differs t q w back before;
    closed = (t, subst (IsWalk pipes t (trail t (suc q))) back (trail_walk t (suc q) w));
  }

  lowest_round : (t n : ℕ) → IsLowest (trail t (suc n))
  lowest_round t n = lowest_of (sense t) (trail (waited t) n)

  -- where a task waits there is a bare circle
  pub circle_waits : IsForward pipes → (t : ℕ) → waits t → (circle : List Sense) × IsBareCircle pipes circle
  circle_waits forward t w =
      let round : ComesBack = comes_back t w in
      let few = fewest round.task round.count round.back in
      let back : after_waits round.task (suc few.least) ≡ round.task =
      eqb-true (after_waits round.task (suc few.least)) round.task few.has in
      let senses : List Sense = trail round.task (suc few.least) in
      let low : IsLowest senses = lowest_round round.task few.least in (
        drop low.place senses ++ take low.place senses,
        bare_circle pipes senses low.place forward (ring_of round.task few.least round.waiting back few.before)
            low.below
            low.lowest,
      )
