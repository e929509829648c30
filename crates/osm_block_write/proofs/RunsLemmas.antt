-- The one list of runs, and how it grows.
use Rattle.std.proofs.Common.{◌≡◌, ℕ, ◌+◌, ◌<◌, ◌≤◌, List, [], ◌∷◌, ◌++◌, length, true, false, refl, sym, ap, ◌∙◌, subst, arith, append_assoc, append-nil}
use Rattle.std.specs.Prelude.{◌≢◌, ◌&&◌, nat_lt, nat_le}
use Rattle.std.specs.List.{AllByRecursion, flat_map, list_all}
use Rattle.std.proofs.lemmas.Bool.{and_from, and_parts, cond_both, false≢true, eq-eqb, eqb-true, lt-ltb, ltb-true, le-leb, leb-true}
use Rattle.std.proofs.lemmas.List.{length-append}
use Rattle.std.proofs.lemmas.List.Concat.{flat_map-append}
use Rattle.std.proofs.lemmas.List.Sums.{sum_by-append, sum_by-cons, sum_by_push}
use Rattle.osm_entity.specs.Entities.{EntityValue, weight_of}
use Rattle.osm_entity.specs.Items.{kind_of}
use Rattle.osm_entity.specs.Keys.{kind_rank}
use Rattle.osm_entity.specs.Prefixes.{IsPrefix}
use Rattle.osm_entity.specs.declared.kind.Kind.{Kind}
use Rattle.osm_entity.specs.declared.stream.End.{End}
use Rattle.osm_entity.specs.declared.stream.End.TheVariants.{Done, Broken}
use Rattle.osm_entity.specs.declared.kind.Kind.TheVariants.{Node, Way, Relation}
use Rattle.osm_block_write.specs.Runs.{AreFull, AreRuns, IsFullBefore, IsBlockRun, Runs, with_entity, with_entities, all_runs, AreLight, have_one_kind, greatest_run, no_runs, open_run, written_runs, runs_of, takes, total_weight}

-- a kind is known by its rank
same_kind : (a b : Kind) → kind_rank a ≡ kind_rank b → a ≡ b
same_kind Node Node is = refl
same_kind Node Way is = absurd (omega arith)
same_kind Node Relation is = absurd (omega arith)
same_kind Way Node is = absurd (omega arith)
same_kind Way Way is = refl
same_kind Way Relation is = absurd (omega arith)
same_kind Relation Node is = absurd (omega arith)
same_kind Relation Way is = absurd (omega arith)
same_kind Relation Relation is = refl

-- entities with_entity one after the other
pub with_entities-append : (limit : ℕ) (r : Runs) (first more : List EntityValue) →
    with_entities limit r (first ++ more) ≡ with_entities limit (with_entities limit r first) more
with_entities-append limit r [] more = refl
with_entities-append limit r (entity ∷ first) more = with_entities-append limit (with_entity limit r entity) first more

-- an entity more
pub runs_of-push : (limit : ℕ) (entities : List EntityValue) (entity : EntityValue) →
    runs_of limit (entities ++ entity ∷ []) ≡ with_entity limit (runs_of limit entities) entity
unfolding runs_of
runs_of-push limit entities entity = with_entities-append limit no_runs entities (entity ∷ [])

-- elements of a list and of what follows
all-append : {X : Type 0} (P : X → Type 0) (xs ys : List X) → AllByRecursion P (xs ++ ys) → AllByRecursion P xs
all-append P [] ys all = tt
all-append P (x ∷ xs) ys all = (all.0, all-append P xs ys all.1)

-- the element behind a list
all-middle : {X : Type 0} (P : X → Type 0) (xs : List X) (y : X) (ys : List X) → AllByRecursion P (xs ++ y ∷ ys) → P y
all-middle P [] y ys all = all.0
all-middle P (x ∷ xs) y ys all = all-middle P xs y ys all.1

-- an element more
pub all-push : {X : Type 0} (P : X → Type 0) (xs : List X) (y : X) → AllByRecursion P xs → P y →
    AllByRecursion P (xs ++ y ∷ [])
all-push P [] y all last = (last, tt)
all-push P (x ∷ xs) y all last = (all.0, all-push P xs y all.1 last)

-- entities of one kind are alike
pub alike_by : (kind : Kind) (entity : EntityValue) (run : List EntityValue) → kind_of entity.body ≡ kind →
    AllByRecursion (λ e. kind_of e.body ≡ kind) run → list_all (have_one_kind entity) run ≡ true
alike_by kind entity [] own all = refl
alike_by kind entity (e ∷ run) own all =
    and_from (have_one_kind entity e) (list_all (have_one_kind entity) run)
    (eq-eqb (kind_rank (kind_of e.body)) (kind_rank (kind_of entity.body)) (ap kind_rank (all.0 ∙ sym own)))
    (alike_by kind entity run own all.1)

-- entities that are alike have one kind
kind_by : (entity : EntityValue) (run : List EntityValue) → list_all (have_one_kind entity) run ≡ true →
    AllByRecursion (λ e. kind_of e.body ≡ kind_of entity.body) run
kind_by entity [] alike = tt
kind_by entity (e ∷ run) alike =
    let parts = and_parts (have_one_kind entity e) (list_all (have_one_kind entity) run) alike in (
      same_kind (kind_of e.body) (kind_of entity.body)
          (eqb-true (kind_rank (kind_of e.body)) (kind_rank (kind_of entity.body)) parts.0),
      kind_by entity run parts.1,
    )

-- a run takes the next of its own entities
takes-own : (limit : ℕ) (run : List EntityValue) (entity : EntityValue) (rest : List EntityValue) →
    IsBlockRun limit (run ++ entity ∷ rest) → takes limit run entity ≡ true
takes-own limit run entity rest is =
    let own : kind_of entity.body ≡ is.kind = all-middle (λ e. kind_of e.body ≡ is.kind) run entity rest is.alike in
    let few : length run < limit = omega (arith, is.few, length-append run (entity ∷ rest)) in
    let light : total_weight run + weight_of entity ≤ greatest_run = omega (
      arith,
      is.light,
      sum_by-append weight_of run (entity ∷ rest),
      sum_by-cons weight_of entity rest,
    ) in
    and_from (list_all (have_one_kind entity) run && nat_lt (length run) limit)
    (nat_le (total_weight run + weight_of entity) greatest_run)
    (and_from (list_all (have_one_kind entity) run) (nat_lt (length run) limit)
    (alike_by is.kind entity run own (all-append (λ e. kind_of e.body ≡ is.kind) run (entity ∷ rest) is.alike))
    (lt-ltb (length run) limit few)) (le-leb (total_weight run + weight_of entity) greatest_run light)

-- a list with an element at its end isn't empty
push-some : (run : List EntityValue) (entity : EntityValue) → run ++ entity ∷ [] ≢ []
push-some [] entity none = cc
push-some (e ∷ run) entity none = cc

-- a run that takes an entity is a run with it
takes-run : (limit : ℕ) (run : List EntityValue) (entity : EntityValue) → takes limit run entity ≡ true →
    IsBlockRun limit (run ++ entity ∷ [])
takes-run limit run entity is =
    let parts = and_parts (list_all (have_one_kind entity) run && nat_lt (length run) limit)
    (nat_le (total_weight run + weight_of entity) greatest_run) is in
    let first = and_parts (list_all (have_one_kind entity) run) (nat_lt (length run) limit) parts.0 in record {
      some = push-some run entity;
      kind = kind_of entity.body;
      alike = all-push (λ e. kind_of e.body ≡ kind_of entity.body) run entity (kind_by entity run first.0) refl;
      few = omega (arith, ltb-true (length run) limit first.1, length-append run (entity ∷ []));
      light = omega (
        arith,
        leb-true (total_weight run + weight_of entity) greatest_run parts.1,
        sum_by_push weight_of run entity,
      );
    }

-- a run that is full before an entity doesn't take it
takes-full : (limit : ℕ) (run : List EntityValue) (entity : EntityValue) → (IsBlockRun limit (run ++ entity ∷ []) → ⊥) →
    takes limit run entity ≡ false
takes-full limit run entity full =
    cond_both (takes limit run entity) true false (λ _. takes limit run entity ≡ false)
    (λ is. absurd (full (takes-run limit run entity is))) (λ not. not)

-- an entity that the open run takes
pub with_entity-taken : (limit : ℕ) (r : Runs) (entity : EntityValue) → takes limit r.opened entity ≡ true →
    with_entity limit r entity ≡ record { closed = r.closed; opened = r.opened ++ entity ∷ [] }
with_entity-taken limit r entity is = rw is refl

-- an entity before which the open run is closed
pub with_entity-full : (limit : ℕ) (r : Runs) (entity : EntityValue) → takes limit r.opened entity ≡ false →
    with_entity limit r entity ≡ record { closed = r.closed ++ r.opened ∷ []; opened = entity ∷ [] }
with_entity-full limit r entity is = rw is refl

-- the open run takes all its own entities
takes_rest : (limit : ℕ) (closed : List (List EntityValue)) (opened rest : List EntityValue) →
    ((first : List EntityValue) (entity : EntityValue) (last : List EntityValue) →
    opened ++ rest ≡ first ++ entity ∷ last → takes limit first entity ≡ true) →
    with_entities limit (record { closed = closed; opened = opened }) rest
    ≡ record { closed = closed; opened = opened ++ rest }
takes_rest limit closed opened [] own =
    ap (λ run. let r : Runs = record { closed = closed; opened = run } in r) (sym (append-nil opened))
takes_rest limit closed opened (entity ∷ rest) own =
    ap (λ r. with_entities limit r rest)
    (with_entity-taken limit (record { closed = closed; opened = opened }) entity (own opened entity rest refl))
    ∙ takes_rest limit closed (opened ++ entity ∷ []) rest
    (λ first e last is. own first e last (sym (append_assoc opened (entity ∷ []) rest) ∙ is))
    ∙ ap (λ run. let r : Runs = record { closed = closed; opened = run } in r)
    (append_assoc opened (entity ∷ []) rest)

-- a run takes all its own entities
takes_run : (limit : ℕ) (closed : List (List EntityValue)) (opened rest : List EntityValue) →
    IsBlockRun limit (opened ++ rest) →
    with_entities limit (record { closed = closed; opened = opened }) rest
    ≡ record { closed = closed; opened = opened ++ rest }
takes_run limit closed opened rest is =
    takes_rest limit closed opened rest
    (λ first entity last same. takes-own limit first entity last (subst (IsBlockRun limit) same is))

-- the runs behind an open one
only_behind : (limit : ℕ) (closed : List (List EntityValue)) (run : List EntityValue)
    (runs : List (List EntityValue)) → AllByRecursion (IsBlockRun limit) (run ∷ runs) → AreFull limit (run ∷ runs) →
    all_runs (with_entities limit (record { closed = closed; opened = run }) (flat_map (λ r. r) runs))
    ≡ closed ++ run ∷ runs
only_behind limit closed [] runs good full = absurd (good.0.some refl)
only_behind limit closed (e ∷ run) [] good full = refl
only_behind limit closed (e ∷ run) ([] ∷ runs) good full = absurd (good.1.0.some refl)
only_behind limit closed (e ∷ run) ((f ∷ next) ∷ runs) good full =
    let now : Runs = record { closed = closed; opened = e ∷ run } in
    let earlier : List (List EntityValue) = closed ++ (e ∷ run) ∷ [] in
    ap (λ r. all_runs (with_entities limit r (next ++ flat_map (λ r. r) runs)))
    (with_entity-full limit now f (takes-full limit (e ∷ run) f full.0))
    ∙ ap all_runs
    (with_entities-append limit (record { closed = earlier; opened = f ∷ [] }) next (flat_map (λ r. r) runs)
    ∙ ap (λ r. with_entities limit r (flat_map (λ r. r) runs)) (takes_run limit earlier (f ∷ []) next good.1.0))
    ∙ only_behind limit earlier (f ∷ next) runs good.1 full.1
    ∙ append_assoc closed ((e ∷ run) ∷ []) ((f ∷ next) ∷ runs)

-- there is no other list of runs
pub only : (limit : ℕ) (entities : List EntityValue) (runs : List (List EntityValue)) →
    AreRuns limit entities runs → runs ≡ all_runs (runs_of limit entities)
unfolding runs_of
only limit entities [] are = ap (λ all. all_runs (with_entities limit no_runs all)) are.joined
only limit entities (run ∷ runs) are =
    sym
    (ap (λ all. all_runs (with_entities limit no_runs all)) (sym are.joined)
    ∙ ap all_runs
    (with_entities-append limit no_runs run (flat_map (λ r. r) runs)
    ∙ ap (λ r. with_entities limit r (flat_map (λ r. r) runs)) (takes_run limit [] [] run are.good.0))
    ∙ only_behind limit [] run runs are.good are.full)

-- an entity alone is taken by a run without any
takes-alone : (limit : ℕ) (entity : EntityValue) → 1 ≤ limit → weight_of entity ≤ greatest_run →
    takes limit [] entity ≡ true
takes-alone limit entity some light =
    and_from (nat_lt 0 limit) (nat_le (0 + weight_of entity) greatest_run) (lt-ltb 0 limit (omega arith))
    (le-leb (0 + weight_of entity) greatest_run (omega (arith, light)))

-- runs joined, and one more behind them
joined-push : (closed : List (List EntityValue)) (run : List EntityValue) →
    flat_map (λ r. r) (closed ++ run ∷ []) ≡ flat_map (λ r. r) closed ++ run
joined-push closed run =
    flat_map-append (λ r. r) closed (run ∷ []) ∙ ap (λ last. flat_map (λ r. r) closed ++ last) (append-nil run)

-- what the last run is full of, by its first entity alone
full-first : (limit : ℕ) (closed : List (List EntityValue)) (first : EntityValue) (a b : List EntityValue) →
    AreFull limit (closed ++ (first ∷ a) ∷ []) → AreFull limit (closed ++ (first ∷ b) ∷ [])
full-first limit [] first a b full = tt
full-first limit (run ∷ []) first a b full = full
full-first limit (run ∷ next ∷ closed) first a b full = (full.0, full-first limit (next ∷ closed) first a b full.1)

-- a run behind one that is full before it
full-push : (limit : ℕ) (closed : List (List EntityValue)) (run next : List EntityValue) →
    AreFull limit (closed ++ run ∷ []) → IsFullBefore limit run next → AreFull limit (closed ++ run ∷ next ∷ [])
full-push limit [] run next full last = (last, tt)
full-push limit (one ∷ []) run next full last = (full.0, (last, tt))
full-push limit (one ∷ two ∷ closed) run next full last = (full.0, full-push limit (two ∷ closed) run next full.1 last)

-- the last of elements, and those before it
all-last : {X : Type 0} (P : X → Type 0) (xs : List X) (y : X) → AllByRecursion P (xs ++ y ∷ []) → P y
all-last P xs y all = all-middle P xs y [] all

-- the open run takes an entity
are_taken : (limit : ℕ) (done : List EntityValue) (closed : List (List EntityValue)) (opened : List EntityValue)
    (entity : EntityValue) → AreRuns limit done (closed ++ open_run opened) → (opened ≡ [] → closed ≡ []) →
    takes limit opened entity ≡ true → AreRuns limit (done ++ entity ∷ []) (closed ++ (opened ++ entity ∷ []) ∷ [])
are_taken limit done closed [] entity are first is =
    let none : closed ≡ [] = first refl in
    let nothing : [] ≡ done = ap (λ c. flat_map (λ r. r) (c ++ [])) (sym none) ∙ are.joined in
    subst (λ c. AreRuns limit (done ++ entity ∷ []) (c ++ (entity ∷ []) ∷ [])) (sym none)
    (record {
      joined = ap (λ d. d ++ entity ∷ []) nothing;
      good = (takes-run limit [] entity is, tt);
      full = tt;
    })
are_taken limit done closed (x ∷ opened) entity are first is = record {
  joined =
      joined-push closed (x ∷ opened ++ entity ∷ [])
      ∙ sym (append_assoc (flat_map (λ r. r) closed) (x ∷ opened) (entity ∷ []))
      ∙ ap (λ d. d ++ entity ∷ []) (sym (joined-push closed (x ∷ opened)) ∙ are.joined);
  good = all-push (IsBlockRun limit) closed (x ∷ opened ++ entity ∷ [])
      (all-append (IsBlockRun limit) closed ((x ∷ opened) ∷ []) are.good) (takes-run limit (x ∷ opened) entity is);
  full = full-first limit closed x opened (opened ++ entity ∷ []) are.full;
}

-- the open run is closed before an entity
are_closed : (limit : ℕ) (done : List EntityValue) (closed : List (List EntityValue)) (opened : List EntityValue)
    (entity : EntityValue) → 1 ≤ limit → weight_of entity ≤ greatest_run →
    AreRuns limit done (closed ++ open_run opened) →
    takes limit opened entity ≡ false →
    AreRuns limit (done ++ entity ∷ []) ((closed ++ opened ∷ []) ++ (entity ∷ []) ∷ [])
are_closed limit done closed [] entity some light are is =
    let own : takes limit [] entity ≡ true = takes-alone limit entity some light in
    absurd (false≢true (sym is ∙ own))
are_closed limit done closed (x ∷ opened) entity some light are is =
    let alone : IsBlockRun limit (entity ∷ []) = takes-run limit [] entity (takes-alone limit entity some light) in
    subst (AreRuns limit (done ++ entity ∷ [])) (sym (append_assoc closed ((x ∷ opened) ∷ []) ((entity ∷ []) ∷ [])))
    (record {
      joined =
          ap (flat_map (λ r. r)) (sym (append_assoc closed ((x ∷ opened) ∷ []) ((entity ∷ []) ∷ [])))
          ∙ joined-push (closed ++ (x ∷ opened) ∷ []) (entity ∷ [])
          ∙ ap (λ d. d ++ entity ∷ []) are.joined;
      good = subst (AllByRecursion (IsBlockRun limit)) (append_assoc closed ((x ∷ opened) ∷ []) ((entity ∷ []) ∷ []))
          (all-push (IsBlockRun limit) (closed ++ (x ∷ opened) ∷ []) (entity ∷ []) are.good alone);
      full = full-push limit closed (x ∷ opened) (entity ∷ []) are.full
          (λ run. false≢true (sym is ∙ takes-own limit (x ∷ opened) entity [] run));
    })

-- a list that is put behind others isn't empty
some_closed : (closed : List (List EntityValue)) (opened : List EntityValue) (entity : EntityValue) →
    opened ++ entity ∷ [] ≡ [] → closed ≡ []
some_closed closed opened entity none = absurd (push-some opened entity none)

-- an open run with entities is the last of all
open_run-push : (opened : List EntityValue) (entity : EntityValue) →
    open_run (opened ++ entity ∷ []) ≡ (opened ++ entity ∷ []) ∷ []
open_run-push [] entity = refl
open_run-push (x ∷ opened) entity = refl

-- the runs with an entity more are runs
are_with_entity : (limit : ℕ) (done : List EntityValue) (r : Runs) (entity : EntityValue) → 1 ≤ limit →
    weight_of entity ≤ greatest_run → AreRuns limit done (all_runs r) → (r.opened ≡ [] → r.closed ≡ []) →
    AreRuns limit (done ++ entity ∷ []) (all_runs (with_entity limit r entity))
    × ((with_entity limit r entity).opened ≡ [] → (with_entity limit r entity).closed ≡ [])
are_with_entity limit done r entity some light are first =
    cond_both (takes limit r.opened entity) true false
    (λ _. AreRuns limit (done ++ entity ∷ []) (all_runs (with_entity limit r entity))
    × ((with_entity limit r entity).opened ≡ [] → (with_entity limit r entity).closed ≡ []))
    (λ is. subst
    (λ n. AreRuns limit (done ++ entity ∷ []) (all_runs n) × (n.opened ≡ [] → n.closed ≡ []))
    (sym (with_entity-taken limit r entity is)) (
      subst (λ last. AreRuns limit (done ++ entity ∷ []) (r.closed ++ last)) (sym (open_run-push r.opened entity))
          (are_taken limit done r.closed r.opened entity are first is),
      some_closed r.closed r.opened entity,
    ))
    (λ not. subst
    (λ n. AreRuns limit (done ++ entity ∷ []) (all_runs n) × (n.opened ≡ [] → n.closed ≡ []))
    (sym (with_entity-full limit r entity not))
    (are_closed limit done r.closed r.opened entity some light are not, λ none. cc))

-- the runs with entities more are runs
are_with_entities : (limit : ℕ) (done : List EntityValue) (r : Runs) (entities : List EntityValue) → 1 ≤ limit →
    AreLight entities → AreRuns limit done (all_runs r) → (r.opened ≡ [] → r.closed ≡ []) →
    AreRuns limit (done ++ entities) (all_runs (with_entities limit r entities))
are_with_entities limit done r [] some light are first =
    subst (λ d. AreRuns limit d (all_runs r)) (sym (append-nil done)) are
are_with_entities limit done r (entity ∷ entities) some light are first =
    let more = are_with_entity limit done r entity some light.0 are first in
    subst (λ d. AreRuns limit d (all_runs (with_entities limit (with_entity limit r entity) entities)))
    (append_assoc done (entity ∷ []) entities)
    (are_with_entities limit (done ++ entity ∷ []) (with_entity limit r entity) entities some light.1 more.0 more.1)

-- there is a list of runs, where each entity alone is one
pub exists : (limit : ℕ) (entities : List EntityValue) → 1 ≤ limit → AreLight entities →
    AreRuns limit entities (all_runs (runs_of limit entities))
unfolding runs_of
exists limit entities some light =
    are_with_entities limit [] no_runs entities some light (record { joined = refl; good = tt; full = tt }) (λ _. refl)

-- closed runs stay when an entity is added
closed-with_entity : (limit : ℕ) (r : Runs) (entity : EntityValue) →
    (rest : List (List EntityValue)) × ((with_entity limit r entity).closed ≡ r.closed ++ rest)
closed-with_entity limit r entity =
    cond_both {A = Runs} (takes limit r.opened entity) (record { closed = r.closed; opened = r.opened ++ entity ∷ [] })
    (record { closed = r.closed ++ r.opened ∷ []; opened = entity ∷ [] })
    (λ n. (rest : List (List EntityValue)) × (n.closed ≡ r.closed ++ rest)) (λ _. ([], sym (append-nil r.closed)))
    (λ _. (r.opened ∷ [], refl))

-- closed runs stay when entities are added
closed-with_entities : (limit : ℕ) (r : Runs) (entities : List EntityValue) →
    (rest : List (List EntityValue)) × ((with_entities limit r entities).closed ≡ r.closed ++ rest)
closed-with_entities limit r [] = ([], sym (append-nil r.closed))
closed-with_entities limit r (entity ∷ entities) =
    let one = closed-with_entity limit r entity in
    let more = closed-with_entities limit (with_entity limit r entity) entities in
    (one.0 ++ more.0, more.1 ∙ ap (λ c. c ++ more.0) one.1 ∙ append_assoc r.closed one.0 more.0)

-- the closed runs of a prefix are the first of those of the whole
pub runs_grow : (limit : ℕ) (entities more : List EntityValue) →
    (rest : List (List EntityValue))
    × ((runs_of limit (entities ++ more)).closed ≡ (runs_of limit entities).closed ++ rest)
unfolding runs_of
runs_grow limit entities more =
    let grown = closed-with_entities limit (with_entities limit no_runs entities) more in
    (grown.0, ap (λ r. r.closed) (with_entities-append limit no_runs entities more) ∙ grown.1)

-- what is written of a stream that broke off begins what is written of every stream that goes on
pub written_runs-prefix : (limit : ℕ) (entities more : List EntityValue) (end : End) →
    IsPrefix (written_runs (runs_of limit entities) Broken) (written_runs (runs_of limit (entities ++ more)) end)
written_runs-prefix limit entities more Broken =
    let grown = runs_grow limit entities more in
    record { rest = grown.0; joined = grown.1 }
written_runs-prefix limit entities more Done =
    let grown = runs_grow limit entities more in
    let last = open_run (runs_of limit (entities ++ more)).opened in
    record {
      rest = grown.0 ++ last;
      joined = ap (λ c. c ++ last) grown.1 ∙ append_assoc (runs_of limit entities).closed grown.0 last;
    }
