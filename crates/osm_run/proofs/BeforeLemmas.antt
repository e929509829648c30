-- What a plan says of the files that were opened before one that was not.
use Rattle.std.proofs.Common.{◌≡◌, ℕ, ◌+◌, ◌<◌, ◌≤◌, List, [], ◌∷◌, ◌++◌, length, take, drop, get_or, Bool, true, false, cond, refl, sym, ap, subst, ◌∙◌, arith, inl, inr}
use Rattle.std.specs.Prelude.{Contains, filter}
use Rattle.std.specs.List.{AllByRecursion}
use Rattle.std.proofs.lemmas.Bool.{cases_eq}
use Rattle.std.proofs.lemmas.List.{append-nil, length-take-le, take-append-drop}
use Rattle.std.proofs.lemmas.List.Elements.{Contains-append_left, Contains-append_right}
use Rattle.osm_run.specs.Plan.{Plan, Polygon, Sink, Source, Store, Use, is_sink, is_source, openings, uses, uses_of}
use Rattle.osm_run.specs.Command.{Command}
use Rattle.osm_run.specs.Opened.{ReadsOrWrites, opened_to}
use Rattle.osm_run.proofs.CountedLemmas.{all_among}
use Rattle.osm_run.proofs.EachLemmas.{all_append, all_both, all_every, all_filter, all_left, all_more}
use Rattle.osm_run.proofs.StoppedLemmas.{IsOther, stop_use}
use Rattle.osm_run.proofs.UsesLemmas.{below_uses, by_plain, each_from, each_plain, each_use, of_task, opened_to-sink, opened_to-source, order_at_sink, order_at_source, plain_at, sources_no_sinks, uses-split, uses-take_all, uses_from}

-- the place in command order before which sinks were opened
abbrev pub stop_place : Bool → ℕ → ℕ
stop_place true t = t
stop_place false t = 0

-- what a plan says of the files that were opened before this one
pub record StopsAt (k : Command) (sink : Bool) (t : ℕ) (name : List ℕ) (us : List Use) : Type 0 where
  pub before_it : (later : List Use) × (openings k.plan ≡ us ++ later)
  pub with_it : (later : List Use) × (openings k.plan ≡ (us ++ stop_use sink t name ∷ []) ++ later)
  pub others : AllByRecursion (IsOther t) us
  pub below : AllByRecursion (λ v. is_sink v ≡ true → v.0 < stop_place sink t) us
  pub all : AllByRecursion (λ v. is_sink v ≡ true → v.0 < stop_place sink t → Contains us v) (uses k.plan)
  pub sourced : sink ≡ false → AllByRecursion (λ v. is_sink v ≡ false) us

filter_some_case : (P : Use → Type 0) (b : Bool) (x : Use) (xs : List Use) → (b ≡ true → P x) → AllByRecursion P xs →
    AllByRecursion P (cond b (x ∷ xs) xs)
filter_some_case P true x xs here all = (here refl, all)
filter_some_case P false x xs here all = all

-- what holds of each file that passes a test holds of those that the test leaves
pub filter_some : (P : Use → Type 0) (test : Use → Bool) (xs : List Use) →
    AllByRecursion (λ x. test x ≡ true → P x) xs → AllByRecursion P (filter test xs)
filter_some P test [] all = tt
filter_some P test (x ∷ xs) all =
    filter_some_case P (test x) x (filter test xs) all.0 (filter_some P test xs all.1)

pub all_take : {X : Type 0} (P : X → Type 0) (k : ℕ) (xs : List X) → AllByRecursion P xs → AllByRecursion P (take k xs)
all_take P k xs all = all_left P (take k xs) (drop k xs) (subst (AllByRecursion P) (sym (take-append-drop k xs)) all)

-- a source or a sink
abbrev IsPlainUse : Use → Type 0
IsPlainUse (x, Source name) = Unit {0}
IsPlainUse (x, Sink name) = Unit {0}
IsPlainUse (x, file) = ⊥

-- the files of the first tasks of a plan are those of other tasks than the next
first_others : (plan : Plan) (t : ℕ) → AllByRecursion ReadsOrWrites plan →
    AllByRecursion (IsOther t) (uses (take t plan))
first_others plan t plain = all_both (λ u. u.0 < t) IsPlainUse (IsOther t) other (uses (take t plan))
    (below_uses plan t)
    (each_plain IsPlainUse (take t plan) (all_take ReadsOrWrites t plan plain) (λ x name. tt) (λ x name. tt)) where
      other : (u : Use) → u.0 < t → IsPlainUse u → IsOther t u
      other (x, Source name) less is = λ same. omega (arith, less, same)
      other (x, Sink name) less is = λ same. omega (arith, less, same)
      other (x, Polygon name) less is = absurd is
      other (x, Store) less is = absurd is

-- the sources among them
source_others : (plan : Plan) (t : ℕ) → AllByRecursion ReadsOrWrites plan →
    AllByRecursion (IsOther t) (opened_to plan t 0)
source_others plan t plain = subst (AllByRecursion (IsOther t))
    (sym (append-nil (filter is_source (uses (take t plan)))))
    (filter_some (IsOther t) is_source (uses (take t plan))
    (all_more (IsOther t) (λ u. is_source u ≡ true → IsOther t u) (λ u other passes. other) (uses (take t plan))
    (first_others plan t plain)))

-- no sources are sinks
never_sink : (us : List Use) (P : Use → Type 0) → AllByRecursion (λ v. is_sink v ≡ false) us →
    AllByRecursion (λ v. is_sink v ≡ true → P v) us
never_sink us P none = all_more (λ v. is_sink v ≡ false) (λ v. is_sink v ≡ true → P v)
    (λ v is no. absurd (let never : false ≡ true = sym is ∙ no in cc)) us none

-- the openings of sources stopped
pub stops_at_source : (k : Command) (t : ℕ) (name : List ℕ) → AllByRecursion ReadsOrWrites k.plan → t < length k.plan →
    get_or k.plan t [] ≡ Source name ∷ [] → StopsAt k false t name (opened_to k.plan t 0)
stops_at_source k t name plain within is =
    let next : (later : List Use) × (openings k.plan ≡ opened_to k.plan (t + 1) 0 ++ later) =
    order_at_source k.plan (t + 1) plain in
    record {
      before_it = order_at_source k.plan t plain;
      with_it = (next.0, next.1 ∙ ap (λ us. us ++ next.0) (opened_to-source k.plan t name within is));
      others = source_others k.plan t plain;
      below = never_sink (opened_to k.plan t 0) (λ v. v.0 < 0) (sources_no_sinks k.plan t);
      all = all_every (λ v. is_sink v ≡ true → v.0 < 0 → Contains (opened_to k.plan t 0) v)
          (λ v passes less. absurd (omega (arith, less))) (uses k.plan);
      sourced = λ is. sources_no_sinks k.plan t;
    }

-- all sources are those of other tasks than one that has a sink
all_sources_other : (plan : Plan) (t : ℕ) (name : List ℕ) → AllByRecursion ReadsOrWrites plan →
    get_or plan t [] ≡ Sink name ∷ [] → AllByRecursion (λ u. is_source u ≡ true → IsOther t u) (uses plan)
all_sources_other plan t name plain is = each_use (λ u. is_source u ≡ true → IsOther t u) plan (λ x within.
    elim (cases_eq x t) [
      | inl same ↦ subst (λ fs. AllByRecursion (λ u. is_source u ≡ true → IsOther t u) (uses_of (x, fs)))
          (sym (ap (λ y. get_or plan y []) same ∙ is))
          (λ passes. absurd (let no : false ≡ true = passes in cc), tt)
      | inr other ↦ by_plain (λ fs. AllByRecursion (λ u. is_source u ≡ true → IsOther t u) (uses_of (x, fs)))
          tt (λ file. (λ passes. other, tt)) (λ file. (λ passes. other, tt)) (get_or plan x [])
          (plain_at plan x plain within)
    ])

-- the sinks of the first tasks are below
pub sinks_below : (plan : Plan) (t : ℕ) →
    AllByRecursion (λ v. is_sink v ≡ true → v.0 < t) (opened_to plan (length plan) t)
sinks_below plan t = all_append (λ v. is_sink v ≡ true → v.0 < t) (filter is_source (uses (take (length plan) plan)))
    (filter is_sink (uses (take t plan)))
    (never_sink (filter is_source (uses (take (length plan) plan))) (λ v. v.0 < t)
    (all_left (λ v. is_sink v ≡ false) (filter is_source (uses (take (length plan) plan))) []
    (sources_no_sinks plan (length plan))))
    (filter_some (λ v. is_sink v ≡ true → v.0 < t) is_sink (uses (take t plan))
    (all_more (λ u. u.0 < t) (λ u. is_sink u ≡ true → is_sink u ≡ true → u.0 < t) (λ u less a b. less)
    (uses (take t plan)) (below_uses plan t)))

-- what passes a test, of a task below, is among what passes it of the first tasks
kind_all : (test : Use → Bool) (plan : Plan) (t : ℕ) → t ≤ length plan →
    AllByRecursion (λ v. test v ≡ true → v.0 < t → Contains (filter test (uses (take t plan))) v) (uses plan)
kind_all test plan t within =
    let first : List Use = uses (take t plan) in
    let P : Use → Type 0 = λ v. test v ≡ true → v.0 < t → Contains (filter test first) v in
    subst (AllByRecursion P) (sym (uses-split plan t))
    (all_append P first (uses_from (length (take t plan)) (drop t plan))
    (all_more (λ v. test v ≡ true → Contains (filter test first) v) P (λ v has passes less. has passes) first
    (all_filter (Contains (filter test first)) test first (all_among (filter test first))))
    (each_from P (length (take t plan)) (drop t plan) (λ x less.
    of_task P (length (take t plan) + x) (get_or (drop t plan) x [])
    (λ file passes below. absurd (omega (arith, below, length-take-le t plan within))))))

-- all sinks below are among those that were opened
pub sinks_all : (plan : Plan) (i t : ℕ) → t ≤ length plan →
    AllByRecursion (λ v. is_sink v ≡ true → v.0 < t → Contains (opened_to plan i t) v) (uses plan)
sinks_all plan i t within =
    all_more (λ v. is_sink v ≡ true → v.0 < t → Contains (filter is_sink (uses (take t plan))) v)
    (λ v. is_sink v ≡ true → v.0 < t → Contains (opened_to plan i t) v)
    (λ v has passes less. Contains-append_right (filter is_source (uses (take i plan)))
    (filter is_sink (uses (take t plan))) v (has passes less)) (uses plan) (kind_all is_sink plan t within)

pub sources_all : (plan : Plan) (t j : ℕ) → t ≤ length plan →
    AllByRecursion (λ v. is_source v ≡ true → v.0 < t → Contains (opened_to plan t j) v) (uses plan)
sources_all plan t j within =
    all_more (λ v. is_source v ≡ true → v.0 < t → Contains (filter is_source (uses (take t plan))) v)
    (λ v. is_source v ≡ true → v.0 < t → Contains (opened_to plan t j) v)
    (λ v has passes less. Contains-append_left (filter is_source (uses (take t plan)))
    (filter is_sink (uses (take j plan))) v (has passes less)) (uses plan) (kind_all is_source plan t within)

pub stops_at_sink : (k : Command) (t : ℕ) (name : List ℕ) → AllByRecursion ReadsOrWrites k.plan → t < length k.plan →
    get_or k.plan t [] ≡ Sink name ∷ [] → StopsAt k true t name (opened_to k.plan (length k.plan) t)
stops_at_sink k t name plain within is =
    let next : (later : List Use) × (openings k.plan ≡ opened_to k.plan (length k.plan) (t + 1) ++ later) =
    order_at_sink k.plan (t + 1) plain in
    record {
      before_it = order_at_sink k.plan t plain;
      with_it = (next.0, next.1 ∙ ap (λ us. us ++ next.0) (opened_to-sink k.plan (length k.plan) t name within is));
      others = all_append (IsOther t) (filter is_source (uses (take (length k.plan) k.plan)))
          (filter is_sink (uses (take t k.plan)))
          (subst (λ us. AllByRecursion (IsOther t) (filter is_source us)) (sym (uses-take_all k.plan))
          (filter_some (IsOther t) is_source (uses k.plan) (all_sources_other k.plan t name plain is)))
          (filter_some (IsOther t) is_sink (uses (take t k.plan))
          (all_more (IsOther t) (λ u. is_sink u ≡ true → IsOther t u) (λ u other passes. other) (uses (take t k.plan))
          (first_others k.plan t plain)));
      below = sinks_below k.plan t;
      all = sinks_all k.plan (length k.plan) t (omega (arith, within));
      sourced = λ no. absurd (let never : true ≡ false = no in cc);
    }
