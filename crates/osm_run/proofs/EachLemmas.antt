-- What holds of each element of a list, for lists made of other lists.
use Rattle.std.proofs.Common.{◌≡◌, List, [], ◌∷◌, ◌++◌, map, Bool, true, false, ◌||◌, cond, refl, ap, ◌∙◌}
use Rattle.std.specs.Prelude.{filter, flat_map}
use Rattle.std.specs.List.{AllByRecursion, list_any}

pub all_more : {X : Type 0} (P Q : X → Type 0) → ((x : X) → P x → Q x) → (xs : List X) →
    AllByRecursion P xs → AllByRecursion Q xs
all_more P Q more [] all = tt
all_more P Q more (x ∷ xs) all = (more x all.0, all_more P Q more xs all.1)

pub all_both : {X : Type 0} (P Q R : X → Type 0) → ((x : X) → P x → Q x → R x) → (xs : List X) →
    AllByRecursion P xs → AllByRecursion Q xs → AllByRecursion R xs
all_both P Q R both [] p q = tt
all_both P Q R both (x ∷ xs) p q = (both x p.0 q.0, all_both P Q R both xs p.1 q.1)

pub all_pairs : {X : Type 0} (P Q : X → Type 0) (xs : List X) → AllByRecursion P xs → AllByRecursion Q xs →
    AllByRecursion (λ x. P x × Q x) xs
all_pairs P Q = all_both P Q (λ x. P x × Q x) (λ x p q. (p, q))

pub all_every : {X : Type 0} (P : X → Type 0) → ((x : X) → P x) → (xs : List X) → AllByRecursion P xs
all_every P every [] = tt
all_every P every (x ∷ xs) = (every x, all_every P every xs)

pub all_left : {X : Type 0} (P : X → Type 0) (xs ys : List X) → AllByRecursion P (xs ++ ys) → AllByRecursion P xs
all_left P [] ys all = tt
all_left P (x ∷ xs) ys all = (all.0, all_left P xs ys all.1)

pub all_right : {X : Type 0} (P : X → Type 0) (xs ys : List X) → AllByRecursion P (xs ++ ys) → AllByRecursion P ys
all_right P [] ys all = all
all_right P (x ∷ xs) ys all = all_right P xs ys all.1

pub all_append : {X : Type 0} (P : X → Type 0) (xs ys : List X) → AllByRecursion P xs → AllByRecursion P ys →
    AllByRecursion P (xs ++ ys)
all_append P [] ys p q = q
all_append P (x ∷ xs) ys p q = (p.0, all_append P xs ys p.1 q)

pub all_map : {X Y : Type 0} (P : Y → Type 0) (h : X → Y) (xs : List X) → AllByRecursion P (map h xs) →
    AllByRecursion (λ x. P (h x)) xs
all_map P h [] all = tt
all_map P h (x ∷ xs) all = (all.0, all_map P h xs all.1)

pub map_all : {X Y : Type 0} (P : Y → Type 0) (h : X → Y) (xs : List X) → AllByRecursion (λ x. P (h x)) xs →
    AllByRecursion P (map h xs)
map_all P h [] all = tt
map_all P h (x ∷ xs) all = (all.0, map_all P h xs all.1)

pub all_flat_map : {X Y : Type 0} (P : Y → Type 0) (f : X → List Y) (xs : List X) →
    AllByRecursion P (flat_map f xs) → AllByRecursion (λ x. AllByRecursion P (f x)) xs
all_flat_map P f [] all = tt
all_flat_map P f (x ∷ xs) all =
    (all_left P (f x) (flat_map f xs) all, all_flat_map P f xs (all_right P (f x) (flat_map f xs) all))

pub flat_map_all : {X Y : Type 0} (P : Y → Type 0) (f : X → List Y) (xs : List X) →
    AllByRecursion (λ x. AllByRecursion P (f x)) xs → AllByRecursion P (flat_map f xs)
flat_map_all P f [] all = tt
flat_map_all P f (x ∷ xs) all = all_append P (f x) (flat_map f xs) all.0 (flat_map_all P f xs all.1)

filter_all_case : {X : Type 0} (P : X → Type 0) (b : Bool) (x : X) (xs : List X) → P x → AllByRecursion P xs →
    AllByRecursion P (cond b (x ∷ xs) xs)
filter_all_case P true x xs p all = (p, all)
filter_all_case P false x xs p all = all

pub filter_all : {X : Type 0} (P : X → Type 0) (test : X → Bool) (xs : List X) → AllByRecursion P xs →
    AllByRecursion P (filter test xs)
filter_all P test [] all = tt
filter_all P test (x ∷ xs) all =
    filter_all_case P (test x) x (filter test xs) all.0 (filter_all P test xs all.1)

filter_each_case : {X : Type 0} (P : X → Type 0) (b : Bool) (x : X) (xs : List X) → (b ≡ true → P x) →
    AllByRecursion P xs → AllByRecursion P (cond b (x ∷ xs) xs)
filter_each_case P true x xs here all = (here refl, all)
filter_each_case P false x xs here all = all

-- what holds of each element that passes a test holds of those that a filter leaves
pub filter_each : {X : Type 0} (P : X → Type 0) (test : X → Bool) → ((x : X) → test x ≡ true → P x) → (xs : List X) →
    AllByRecursion P (filter test xs)
filter_each P test each [] = tt
filter_each P test each (x ∷ xs) =
    filter_each_case P (test x) x (filter test xs) (each x) (filter_each P test each xs)

all_filter_case : {X : Type 0} (P : X → Type 0) (b : Bool) (x : X) (xs : List X) →
    AllByRecursion P (cond b (x ∷ xs) xs) → (b ≡ true → P x) × AllByRecursion P xs
all_filter_case P true x xs all = (λ is. all.0, all.1)
all_filter_case P false x xs all = (λ is. absurd (let no : false ≡ true = is in cc), all)

-- what holds of those that pass a test holds of each that passes it
pub all_filter : {X : Type 0} (P : X → Type 0) (test : X → Bool) (xs : List X) → AllByRecursion P (filter test xs) →
    AllByRecursion (λ x. test x ≡ true → P x) xs
all_filter P test [] all = tt
all_filter P test (x ∷ xs) all = let here = all_filter_case P (test x) x (filter test xs) all in
    (here.0, all_filter P test xs here.1)

-- two lists that are nothing together
pub none_left : {X : Type 0} (xs ys : List X) → xs ++ ys ≡ [] → xs ≡ []
none_left [] ys none = refl
none_left (x ∷ xs) ys none = cc

pub none_right : {X : Type 0} (xs ys : List X) → xs ++ ys ≡ [] → ys ≡ []
none_right [] ys none = none
none_right (x ∷ xs) ys none = cc

pub none_each : {X Y : Type 0} (f : X → List Y) (xs : List X) → flat_map f xs ≡ [] →
    AllByRecursion (λ x. f x ≡ []) xs
none_each f [] none = tt
none_each f (x ∷ xs) none =
    (none_left (f x) (flat_map f xs) none, none_each f xs (none_right (f x) (flat_map f xs) none))

both_false : (b c : Bool) → (b || c) ≡ false → (b ≡ false) × (c ≡ false)
both_false true c is = absurd (let no : true ≡ false = is in cc)
both_false false c is = (refl, is)

-- where no element passes a test, each fails it
pub any_none : {X : Type 0} (test : X → Bool) (xs : List X) → list_any test xs ≡ false →
    AllByRecursion (λ x. test x ≡ false) xs
any_none test [] none = tt
any_none test (x ∷ xs) none = let both = both_false (test x) (list_any test xs) none in
    (both.0, any_none test xs both.1)

pub none_any : {X : Type 0} (test : X → Bool) (xs : List X) → AllByRecursion (λ x. test x ≡ false) xs →
    list_any test xs ≡ false
none_any test [] all = refl
none_any test (x ∷ xs) all = ap (λ b. b || list_any test xs) all.0 ∙ none_any test xs all.1

or_true : (b c : Bool) → c ≡ true → (b || c) ≡ true
or_true true c is = refl
or_true false c is = is

left_true : (b c : Bool) → b ≡ true → (b || c) ≡ true
left_true true c is = refl
left_true false c is = absurd (let no : false ≡ true = is in cc)

-- each element that passes a test makes the list pass it
pub each_any : {X : Type 0} (test : X → Bool) (xs : List X) →
    AllByRecursion (λ x. test x ≡ true → list_any test xs ≡ true) xs
each_any test [] = tt
each_any test (x ∷ xs) = (
  left_true (test x) (list_any test xs),
  all_more (λ y. test y ≡ true → list_any test xs ≡ true) (λ y. test y ≡ true → list_any test (x ∷ xs) ≡ true)
      (λ y tail passes. or_true (test x) (list_any test xs) (tail passes)) xs (each_any test xs),
)
