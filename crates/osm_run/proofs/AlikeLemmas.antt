-- Lists whose elements are told alike by two functions, or by two relations.
use Rattle.std.proofs.Common.{◌≡◌, ℕ, ◌+◌, List, [], ◌∷◌, ◌++◌, Bool, false, ◌||◌, refl, sym, ap, ◌∙◌}
use Rattle.std.specs.Prelude.{filter, flat_map, if◌then◌else◌, sum_by}
use Rattle.std.specs.List.{AllByRecursion, list_any}
use Rattle.std.proofs.lemmas.List.Sums.{sum_by-cons}

pub flat_map_alike : {X Y : Type 0} (P : X → Type 0) (f g : X → List Y) → ((x : X) → P x → f x ≡ g x) → (xs : List X) →
    AllByRecursion P xs → flat_map f xs ≡ flat_map g xs
flat_map_alike P f g same [] all = refl
flat_map_alike P f g same (x ∷ xs) all =
    ap (λ ys. ys ++ flat_map f xs) (same x all.0) ∙ ap (λ ys. g x ++ ys) (flat_map_alike P f g same xs all.1)

pub any_alike : {X : Type 0} (P : X → Type 0) (f g : X → Bool) → ((x : X) → P x → f x ≡ g x) → (xs : List X) →
    AllByRecursion P xs → list_any f xs ≡ list_any g xs
any_alike P f g same [] all = refl
any_alike P f g same (x ∷ xs) all =
    ap (λ b. b || list_any f xs) (same x all.0) ∙ ap (λ b. g x || b) (any_alike P f g same xs all.1)

pub sum_alike : {X : Type 0} (P : X → Type 0) (f g : X → ℕ) → ((x : X) → P x → f x ≡ g x) → (xs : List X) →
    AllByRecursion P xs → sum_by f xs ≡ sum_by g xs
sum_alike P f g same [] all = refl
sum_alike P f g same (x ∷ xs) all =
    sum_by-cons f x xs ∙ ap (λ k. k + sum_by f xs) (same x all.0)
    ∙ ap (λ k. g x + k) (sum_alike P f g same xs all.1) ∙ sym (sum_by-cons g x xs)

pub all_alike : {X : Type 0} (N P Q : X → Type 0) → ((x : X) → N x → P x → Q x) → (xs : List X) → AllByRecursion N xs →
    AllByRecursion P xs → AllByRecursion Q xs
all_alike N P Q more [] others all = tt
all_alike N P Q more (x ∷ xs) others all = (more x others.0 all.0, all_alike N P Q more xs others.1 all.1)

pub none_left_filter : {X : Type 0} (test : X → Bool) (xs : List X) → AllByRecursion (λ x. test x ≡ false) xs →
    filter test xs ≡ []
none_left_filter test [] none = refl
none_left_filter test (x ∷ xs) none =
    ap (λ b. if b then x ∷ filter test xs else filter test xs) none.0 ∙ none_left_filter test xs none.1
