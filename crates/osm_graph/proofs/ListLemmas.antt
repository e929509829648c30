-- Facts of each element of a list, of each two, and of one of them, by recursion.
use Rattle.std.proofs.Common.{◌≡◌, ◌<◌, ◌+◌, ◌⊎◌, ℕ, zero, suc, Bool, true, false, cond, List, ◌∷◌, [], ◌++◌, length, get_or, None, Some, refl, sym, ap, ◌∙◌, inl, inr, arith}
use Rattle.std.specs.Prelude.{⊤, not, All, IsSome, find, position, if◌then◌else◌}
use Rattle.std.specs.List.{position_or_len}
use Rattle.std.proofs.lemmas.Bool.{lt-ltb}
use Rattle.std.proofs.lemmas.List.Sums.{position_or_len_is}

-- each element has a fact
abbrev pub Every : {X : Type 0} → (X → Type 0) → List X → Type 0
Every P [] = ⊤
Every P (x ∷ xs) = P x × Every P xs

-- each element has a fact with each later one
abbrev pub EachTwo : {X : Type 0} → (X → X → Type 0) → List X → Type 0
EachTwo R [] = ⊤
EachTwo R (x ∷ xs) = Every (R x) xs × EachTwo R xs

-- an element is in a list
abbrev pub Among : {X : Type 0} → List X → X → Type 0
Among [] y = ⊥
Among (x ∷ xs) y = (x ≡ y) ⊎ Among xs y

-- what each element has by its place
pub Every-from_All : {X : Type 0} (P : X → Type 0) (xs : List X) → All P xs → Every P xs
Every-from_All P [] has = tt
Every-from_All P (x ∷ xs) has =
    (has 0 x (omega arith), Every-from_All P xs (λ k d below. has (suc k) d (omega arith)))

pub Every-append : {X : Type 0} (P : X → Type 0) (xs ys : List X) → Every P xs → Every P ys → Every P (xs ++ ys)
Every-append P [] ys here there = there
Every-append P (x ∷ xs) ys here there = (here.0, Every-append P xs ys here.1 there)

-- what follows of each element from what each has
pub Every-then : {X : Type 0} (P Q : X → Type 0) → ((x : X) → P x → Q x) → (xs : List X) → Every P xs → Every Q xs
Every-then P Q step [] has = tt
Every-then P Q step (x ∷ xs) has = (step x has.0, Every-then P Q step xs has.1)

pub Every-among : {X : Type 0} (P : X → Type 0) (xs : List X) (y : X) → Every P xs → Among xs y → P y
Every-among P [] y has among = absurd among
Every-among P (x ∷ xs) y has (inl is) = let F : _ → Type 0 = P in rw (sym is) has.0
Every-among P (x ∷ xs) y has (inr more) = Every-among P xs y has.1 more

pub Every-get_or : {X : Type 0} (P : X → Type 0) (xs : List X) (k : ℕ) (d : X) → k < length xs → Every P xs →
    P (get_or xs k d)
Every-get_or P [] k d below has = absurd (omega arith)
Every-get_or P (x ∷ xs) zero d below has = has.0
Every-get_or P (x ∷ xs) (suc k) d below has = Every-get_or P xs k d (omega arith) has.1

pub EachTwo-append : {X : Type 0} (R : X → X → Type 0) (xs ys : List X) → EachTwo R xs → EachTwo R ys →
    Every (λ x. Every (R x) ys) xs → EachTwo R (xs ++ ys)
EachTwo-append R [] ys here there across = there
EachTwo-append R (x ∷ xs) ys here there across =
    (Every-append (R x) xs ys here.0 across.0, EachTwo-append R xs ys here.1 there across.1)

pub EachTwo-get_or : {X : Type 0} (R : X → X → Type 0) (xs : List X) (i j : ℕ) (d : X) → i < j → j < length xs →
    EachTwo R xs → R (get_or xs i d) (get_or xs j d)
EachTwo-get_or R [] i j d less below has = absurd (omega arith)
EachTwo-get_or R (x ∷ xs) i zero d less below has = absurd (omega arith)
EachTwo-get_or R (x ∷ xs) zero (suc j) d less below has = Every-get_or (R x) xs j d (omega arith) has.0
EachTwo-get_or R (x ∷ xs) (suc i) (suc j) d less below has =
    EachTwo-get_or R xs i j d (omega arith) (omega arith) has.1

-- two elements of a list are one, or one comes before the other
pub EachTwo-among : {X : Type 0} (R : X → X → Type 0) (xs : List X) (a b : X) → EachTwo R xs → Among xs a →
    Among xs b → (a ≡ b) ⊎ (R a b ⊎ R b a)
EachTwo-among R [] a b has one other = absurd one
EachTwo-among R (x ∷ xs) a b has (inl is) (inl same) = inl (sym is ∙ same)
EachTwo-among R (x ∷ xs) a b has (inl is) (inr other) =
    inr (inl (rw (sym is) (Every-among (R x) xs b has.0 other)))
EachTwo-among R (x ∷ xs) a b has (inr one) (inl same) =
    inr (inr (rw (sym same) (Every-among (R x) xs a has.0 one)))
EachTwo-among R (x ∷ xs) a b has (inr one) (inr other) = EachTwo-among R xs a b has.1 one other

pub Among-left : {X : Type 0} (xs ys : List X) (y : X) → Among xs y → Among (xs ++ ys) y
Among-left [] ys y among = absurd among
Among-left (x ∷ xs) ys y (inl is) = inl is
Among-left (x ∷ xs) ys y (inr more) = inr (Among-left xs ys y more)

pub Among-right : {X : Type 0} (xs ys : List X) (y : X) → Among ys y → Among (xs ++ ys) y
Among-right [] ys y among = among
Among-right (x ∷ xs) ys y among = inr (Among-right xs ys y among)

-- what is found is in the list, and passes
pub find-among : {X : Type 0} (test : X → Bool) (xs : List X) (y : X) → find test xs ≡ Some y →
    (test y ≡ true) × Among xs y
find-among test [] y is = absurd (let never : None ≡ Some y = is in cc)
find-among test (x ∷ xs) y is = cases (test x) refl (λ found. find-among test xs y found) is
  where
    cases : (b : Bool) → test x ≡ b → (find test xs ≡ Some y → (test y ≡ true) × Among xs y) →
        (if b then Some x else find test xs) ≡ Some y → (test y ≡ true) × Among (x ∷ xs) y
    cases true passes later found =
        let same : x ≡ y = (let e : Some x ≡ Some y = found in grind arith) in (rw (sym same) passes, inl same)
    cases false fails later found =
        let more : (test y ≡ true) × Among xs y = later found in (more.0, inr more.1)

-- the first place that passes is the one before which none does
pub position-here : {X : Type 0} (test : X → Bool) (xs : List X) (p : ℕ) (d : X) → p < length xs →
    test (get_or xs p d) ≡ true → ((k : ℕ) → k < p → test (get_or xs k d) ≡ false) → position test xs ≡ Some p
position-here test xs p d below passes none =
    let is : position_or_len test xs ≡ p = position_or_len_is test xs p d (omega arith) none (λ h. passes) in
    rw (is, lt-ltb p (length xs) below) refl

position-below : {X : Type 0} (test : X → Bool) (xs : List X) (y : X) → Among xs y → test y ≡ true →
    position_or_len test xs < length xs
position-below test [] y among passes = absurd among
position-below test (x ∷ xs) y (inl is) passes =
    let here : test x ≡ true = ap test is ∙ passes in rw here (omega arith)
position-below test (x ∷ xs) y (inr more) passes =
    by_first (test x) (position-below test xs y more passes)
  where
    by_first : (b : Bool) → position_or_len test xs < length xs →
        cond (not b) (1 + position_or_len test xs) 0 < suc (length xs)
    by_first true below = omega arith
    by_first false below = omega arith

-- a list with an element that passes has a first
pub position-some : {X : Type 0} (test : X → Bool) (xs : List X) (y : X) → Among xs y → test y ≡ true →
    IsSome (position test xs)
position-some test xs y among passes =
    let below : position_or_len test xs < length xs = position-below test xs y among passes in
    rw (lt-ltb (position_or_len test xs) (length xs) below) refl
