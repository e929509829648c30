-- The openings of a plan are its files in another order.
use Rattle.std.proofs.Common.{◌≡◌, List, [], ◌∷◌, ◌++◌, true, refl}
use Rattle.std.specs.Prelude.{filter}
use Rattle.std.specs.List.{AllByRecursion}
use Rattle.osm_run.specs.Plan.{Polygon, Source, Store, Sink, Plan, Use, numbered, uses, uses_of, openings, is_polygon, is_source, is_store, is_sink}
use Rattle.osm_run.proofs.EachLemmas.{all_left, all_right, all_append, all_filter, filter_all, all_map, map_all, all_flat_map, flat_map_all, all_more}

-- what holds of a file of each kind holds of the file
one_kind : (P : Use → Type 0) (u : Use) → (is_polygon u ≡ true → P u) → (is_source u ≡ true → P u) →
    (is_store u ≡ true → P u) → (is_sink u ≡ true → P u) → P u
one_kind P (task, Polygon name) p q r s = p refl
one_kind P (task, Source name) p q r s = q refl
one_kind P (task, Store) p q r s = r refl
one_kind P (task, Sink name) p q r s = s refl

by_kind : (P : Use → Type 0) (us : List Use) → AllByRecursion (λ u. is_polygon u ≡ true → P u) us →
    AllByRecursion (λ u. is_source u ≡ true → P u) us → AllByRecursion (λ u. is_store u ≡ true → P u) us →
    AllByRecursion (λ u. is_sink u ≡ true → P u) us → AllByRecursion P us
by_kind P [] p q r s = tt
by_kind P (u ∷ us) p q r s = (one_kind P u p.0 q.0 r.0 s.0, by_kind P us p.1 q.1 r.1 s.1)

pub all_uses : (P : Use → Type 0) (plan : Plan) → AllByRecursion P (openings plan) → AllByRecursion P (uses plan)
all_uses P plan all =
    let us : List Use = uses plan in
    let a : List Use = filter is_polygon us in
    let b : List Use = filter is_source us in
    let c : List Use = filter is_store us in
    let d : List Use = filter is_sink us in
    let abc : AllByRecursion P (a ++ b ++ c) = all_left P (a ++ b ++ c) d all in
    let ab : AllByRecursion P (a ++ b) = all_left P (a ++ b) c abc in
    by_kind P us (all_filter P is_polygon us (all_left P a b ab)) (all_filter P is_source us (all_right P a b ab))
    (all_filter P is_store us (all_right P (a ++ b) c abc)) (all_filter P is_sink us (all_right P (a ++ b ++ c) d all))

pub all_openings : (P : Use → Type 0) (plan : Plan) → AllByRecursion P (uses plan) → AllByRecursion P (openings plan)
all_openings P plan all =
    let us : List Use = uses plan in
    let a : List Use = filter is_polygon us in
    let b : List Use = filter is_source us in
    let c : List Use = filter is_store us in
    let d : List Use = filter is_sink us in
    all_append P (a ++ b ++ c) d
    (all_append P (a ++ b) c
    (all_append P a b (filter_all P is_polygon us all) (filter_all P is_source us all))
    (filter_all P is_store us all)) (filter_all P is_sink us all)

-- what holds of all files holds of the files of each task
pub all_tasks : (P : Use → Type 0) (plan : Plan) → AllByRecursion P (uses plan) →
    AllByRecursion (λ t. AllByRecursion (λ file. P (t.0, file)) t.1) (numbered plan)
all_tasks P plan all =
    all_more (λ t. AllByRecursion P (uses_of t)) (λ t. AllByRecursion (λ file. P (t.0, file)) t.1)
    (λ t here. all_map P (λ file. (t.0, file)) t.1 here) (numbered plan) (all_flat_map P uses_of (numbered plan) all)

pub tasks_all : (P : Use → Type 0) (plan : Plan) →
    AllByRecursion (λ t. AllByRecursion (λ file. P (t.0, file)) t.1) (numbered plan) → AllByRecursion P (uses plan)
tasks_all P plan all =
    flat_map_all P uses_of (numbered plan)
    (all_more (λ t. AllByRecursion (λ file. P (t.0, file)) t.1) (λ t. AllByRecursion P (uses_of t))
    (λ t here. map_all P (λ file. (t.0, file)) t.1 here) (numbered plan) all)
