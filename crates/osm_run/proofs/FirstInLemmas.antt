-- The first fault of a list of lists stands at the first element that has one.
use Rattle.std.proofs.Common.{◌≡◌, List, [], ◌∷◌, ◌++◌, refl, ap, subst, ◌∙◌, inl, inr}
use Rattle.std.specs.Prelude.{flat_map, ◌⊎◌}
use Rattle.std.specs.List.{AllByRecursion}
use Rattle.osm_report.specs.declared.fault.Fault.{Fault}
use Rattle.osm_run.specs.Course.{first_fault}
use Rattle.osm_run.proofs.EachLemmas.{all_right}

-- the first element of a list that has a fault, and no fault before it
pub record IsFirst {X : Type 0} (f : X → List Fault) (xs : List X) (fault : Fault) : Type 0 where
  pub earlier : List X
  pub at : X
  pub later : List X
  pub more : List Fault
  pub split : xs ≡ earlier ++ at ∷ later
  pub none : flat_map f earlier ≡ []
  pub is : f at ≡ fault ∷ more

first_step : {X : Type 0} (f : X → List Fault) (x : X) (xs : List X) (ys faults : List Fault) (fault : Fault) →
    f x ≡ faults → first_fault (faults ++ flat_map f xs ++ ys) ≡ fault →
    (first_fault (flat_map f xs ++ ys) ≡ fault →
    ((flat_map f xs ≡ []) × (first_fault ys ≡ fault)) ⊎ IsFirst f xs fault) →
    ((flat_map f (x ∷ xs) ≡ []) × (first_fault ys ≡ fault)) ⊎ IsFirst f (x ∷ xs) fault
first_step f x xs ys [] fault here is rest = elim (rest is) [
  | inl none ↦ inl (ap (λ fs. fs ++ flat_map f xs) here ∙ none.0, none.1)
  | inr first ↦ inr (record {
    earlier = x ∷ first.earlier;
    at = first.at;
    later = first.later;
    more = first.more;
    split = ap (λ ys. x ∷ ys) first.split;
    none = ap (λ fs. fs ++ flat_map f first.earlier) here ∙ first.none;
    is = first.is;
  })
]
first_step f x xs ys (g ∷ gs) fault here is rest = inr (record {
  earlier = [];
  at = x;
  later = xs;
  more = gs;
  split = refl;
  none = refl;
  is = here ∙ ap (λ h. h ∷ gs) is;
})

-- the first of some faults and more is that of the first element, or none has one
pub first_in : {X : Type 0} (f : X → List Fault) (xs : List X) (ys : List Fault) (fault : Fault) →
    first_fault (flat_map f xs ++ ys) ≡ fault → ((flat_map f xs ≡ []) × (first_fault ys ≡ fault)) ⊎ IsFirst f xs fault
first_in f [] ys fault is = inl (refl, is)
first_in f (x ∷ xs) ys fault is = first_step f x xs ys (f x) fault refl is (first_in f xs ys fault)

-- what holds of each element holds of the first that has a fault
pub all_at : {X : Type 0} (P : X → Type 0) (f : X → List Fault) (xs : List X) (fault : Fault) →
    (first : IsFirst f xs fault) → AllByRecursion P xs → P first.at
all_at P f xs fault first all =
    (all_right P first.earlier (first.at ∷ first.later) (subst (AllByRecursion P) first.split all)).0
