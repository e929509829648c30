-- What courses tell of files that gave nothing.
use Rattle.std.proofs.Common.{◌≡◌, ℕ, zero, suc, ◌+◌, List, [], ◌∷◌, ◌++◌, length, Bool, true, false, cond, refl, sym, ap, subst, ◌∙◌, arith, inl}
use Rattle.std.specs.Prelude.{Contains, Option, Some, None, flat_map, sum_by}
use Rattle.std.specs.List.{AllByRecursion}
use Rattle.std.specs.Str.{bytes_eq}
use Rattle.std.proofs.lemmas.List.Sums.{sum_by-cons}
use Rattle.osm_host.specs.Contents.{Files}
use Rattle.osm_host.specs.Counts.{raised}
use Rattle.osm_host.specs.declared.outside.Op.{Op}
use Rattle.osm_run.specs.Plan.{Plan, Polygon, Sink, Source, Store, Use, uses}
use Rattle.osm_run.specs.Course.{Course, entries, entry, given_under}
use Rattle.osm_run.specs.OnHost.{GivesFile, IsAtRest}
use Rattle.osm_run.proofs.CallLemmas.{raised-none}
use Rattle.osm_run.proofs.EachLemmas.{all_every}

-- lists made of equal lists are equal
pub flat_map_same : {X Y : Type 0} (f g : X → List Y) → ((x : X) → f x ≡ g x) → (xs : List X) →
    flat_map f xs ≡ flat_map g xs
flat_map_same f g same [] = refl
flat_map_same f g same (x ∷ xs) = ap (λ ys. ys ++ flat_map f xs) (same x) ∙ ap (λ ys. g x ++ ys)
    (flat_map_same f g same xs)

-- entries are those of what came
entry_same : (c d : Course) → ((t : ℕ) → c.given t ≡ d.given t) → ((t : ℕ) → c.clean t ≡ d.clean t) → (u : Use) →
    entry c u ≡ entry d u
entry_same c d given clean (task, Source name) =
    ap (λ bytes. record { task = task; given = length bytes; clean = c.clean task } ∷ []) (given task)
    ∙ ap (λ b. record { task = task; given = length (d.given task); clean = b } ∷ []) (clean task)
entry_same c d given clean (task, Polygon name) = refl
entry_same c d given clean (task, Store) = refl
entry_same c d given clean (task, Sink name) = refl

pub entries_same : (plan : Plan) (c d : Course) → ((t : ℕ) → c.given t ≡ d.given t) →
    ((t : ℕ) → c.clean t ≡ d.clean t) → entries plan c ≡ entries plan d
entries_same plan c d given clean = flat_map_same (entry c) (entry d) (entry_same c d given clean) (uses plan)

-- a course in which nothing came, by which calls failed
abbrev pub failing_course : List Use → (Op → ℕ → Bool) → Course
failing_course opened failed = record {
  opened = opened;
  given = λ t. [];
  clean = λ t. false;
  failed = failed;
  spilled = λ t. false;
}

-- nothing comes of a file whose task no pull failed for
pub gives_nothing : (told : Option Files) (c : Course) → ((t : ℕ) → IsAtRest c t) → (u : Use) → GivesFile told c u
gives_nothing None c rest (task, Polygon name) = tt
gives_nothing None c rest (task, Source name) = tt
gives_nothing None c rest (task, Store) = tt
gives_nothing None c rest (task, Sink name) = tt
gives_nothing (Some files) c rest (task, Polygon name) = inl (rest task)
gives_nothing (Some files) c rest (task, Source name) = inl (rest task)
gives_nothing (Some files) c rest (task, Store) = tt
gives_nothing (Some files) c rest (task, Sink name) = tt

-- nothing is given under any name
none_given : (c : Course) → ((t : ℕ) → c.given t ≡ []) → (n : List ℕ) (u : Use) → given_under c n u ≡ 0
none_given c none n (task, Polygon name) = by_name (bytes_eq n name) (c.given task) (none task) where
  by_name : (b : Bool) (bytes : List ℕ) → bytes ≡ [] → cond b (length bytes) 0 ≡ 0
  by_name true bytes is = ap length is
  by_name false bytes is = refl
none_given c none n (task, Source name) = by_name (bytes_eq n name) (c.given task) (none task) where
  by_name : (b : Bool) (bytes : List ℕ) → bytes ≡ [] → cond b (length bytes) 0 ≡ 0
  by_name true bytes is = ap length is
  by_name false bytes is = refl
none_given c none n (task, Store) = refl
none_given c none n (task, Sink name) = refl

pub sum_of_none : {X : Type 0} (f : X → ℕ) (xs : List X) → AllByRecursion (λ x. f x ≡ 0) xs → sum_by f xs ≡ 0
sum_of_none f [] none = refl
sum_of_none f (x ∷ xs) none =
    sum_by-cons f x xs ∙ ap (λ k. k + sum_by f xs) none.0 ∙ ap (λ k. 0 + k) (sum_of_none f xs none.1)

pub gave_none : (c : Course) (us : List Use) → ((t : ℕ) → c.given t ≡ []) → (n : List ℕ) (before now : ℕ) → now ≡ before →
    now ≡ raised before (sum_by (given_under c n) us)
gave_none c us none n before now same = same ∙ sym (ap (raised before) (sum_of_none (given_under c n) us
    (all_every (λ u. given_under c n u ≡ 0) (none_given c none n) us)) ∙ raised-none before)

-- what is so of each element is so of one that a list has
pub all_has : {X : Type 0} (P : X → Type 0) (xs : List X) (x : X) → AllByRecursion P xs → Contains xs x → P x
all_has P [] x all has = absurd (omega (arith, has.1))
all_has P (y ∷ xs) x all (zero, within, is) = subst P is all.0
all_has P (y ∷ xs) x all (suc k, within, is) = all_has P xs x all.1 (k, omega (arith, within), is)
