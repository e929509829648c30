-- The stream without what isn't used only grows.
use Rattle.std.proofs.Common.{◌≡◌, ℤ, List, [], ◌∷◌, ◌++◌, Bool, true, false, refl, sym, ap, ◌∙◌, cond}
use Rattle.std.specs.Prelude.{◌||◌}
use Rattle.std.specs.List.{filter, take_while}
use Rattle.std.proofs.lemmas.List.{append-nil}
use Rattle.std.proofs.lemmas.List.Sums.{take_while-cons}
use Rattle.osm_entity.specs.Growth.{Grows, IsMonotone}
use Rattle.osm_entity.specs.Items.{ItemValue}
use Rattle.osm_entity.specs.declared.kind.Kind.{Kind}
use Rattle.osm_entity.specs.declared.stream.End.{End}
use Rattle.osm_entity.specs.declared.stream.End.TheVariants.{Done, Broken}
use Rattle.osm_entity.proofs.GrowthLemmas.{monotone}
use Rattle.osm_used.specs.Used.{is_not_of, is_used, items_left, stays_if, used_only}

-- the elements from the first on that doesn't pass
abbrev from_first : {X : Type 0} → (X → Bool) → List X → List X
from_first p [] = []
from_first p (x ∷ xs) = cond (p x) (from_first p xs) (x ∷ xs)

-- an element more that is taken where it and all before it pass
abbrev one_more : {X : Type 0} → (X → Bool) → List X → X → List X
one_more p [] x = cond (p x) (x ∷ []) []
one_more p (y ∷ xs) x = cond (p y) (one_more p xs x) []

more_by : {X : Type 0} (passes : Bool) (y : X) (all first more : List X) → all ≡ first ++ more →
    cond passes (y ∷ all) [] ≡ cond passes (y ∷ first) [] ++ cond passes more []
more_by true y all first more is = ap (λ ys. y ∷ ys) is
more_by false y all first more is = refl

take_while-more : {X : Type 0} (p : X → Bool) (xs : List X) (x : X) →
    take_while p (xs ++ x ∷ []) ≡ take_while p xs ++ one_more p xs x
take_while-more p [] x = take_while-cons p x []
take_while-more p (y ∷ xs) x = take_while-cons p y (xs ++ x ∷ [])
    ∙ more_by (p y) y (take_while p (xs ++ x ∷ [])) (take_while p xs) (one_more p xs x) (take_while-more p xs x)
    ∙ ap (λ ys. ys ++ one_more p (y ∷ xs) x) (sym (take_while-cons p y xs))

first_by : {X : Type 0} (p q : X → Bool) (x : X) (xs : List X) (passes : Bool) → p x ≡ passes →
    (p x ≡ true → q x ≡ true) →
    filter q xs ≡ take_while p xs ++ filter q (from_first p xs) →
    filter q (x ∷ xs) ≡ cond passes (x ∷ take_while p xs) [] ++ filter q (cond passes (from_first p xs) (x ∷ xs))
first_by p q x xs true is keeps more =
    ap (λ b. cond b (x ∷ filter q xs) (filter q xs)) (keeps is) ∙ ap (λ ys. x ∷ ys) more
first_by p q x xs false is keeps more = refl

-- who keeps all that passes, keeps first what is taken while it passes
filter-take_while : {X : Type 0} (p q : X → Bool) → ((x : X) → p x ≡ true → q x ≡ true) → (xs : List X) →
    filter q xs ≡ take_while p xs ++ filter q (from_first p xs)
filter-take_while p q keeps [] = refl
filter-take_while p q keeps (x ∷ xs) = first_by p q x xs (p x) refl (keeps x) (filter-take_while p q keeps xs)
    ∙ ap (λ ys. ys ++ filter q (from_first p (x ∷ xs))) (sym (take_while-cons p x xs))

-- what is not of the kind stays
stays_at : (kind : Kind) (test : ℤ → Bool) (item : ItemValue) → is_not_of kind item ≡ true →
    stays_if kind test item ≡ true
stays_at kind test item is = ap (λ b. b || test item.entity.id) is

last_used : Kind → List ItemValue → End → List ItemValue
last_used kind xs Done = filter (stays_if kind (is_used kind xs)) (from_first (is_not_of kind) xs)
last_used kind xs Broken = []

last_is : (kind : Kind) (xs : List ItemValue) (end : End) →
    items_left kind (is_used kind xs) xs end ≡ take_while (is_not_of kind) xs ++ last_used kind xs end
unfolding last_used
last_is kind xs Done = filter-take_while (is_not_of kind) (stays_if kind (is_used kind xs))
    (λ item is. stays_at kind (is_used kind xs) item is) xs
last_is kind xs Broken = sym (append-nil (take_while (is_not_of kind) xs))

-- an item more is given where no item of the kind was before it, and a whole end fixes all from the first of them on
pub used_grows : (kind : Kind) → Grows (used_only kind)
used_grows kind = record {
  more = one_more (is_not_of kind);
  item = λ xs x. take_while-more (is_not_of kind) xs x;
  last = last_used kind;
  ended = last_is kind;
  broken = λ xs. refl;
}

pub used_is_monotone : (kind : Kind) → IsMonotone (used_only kind)
used_is_monotone kind = monotone (used_only kind) (used_grows kind)
