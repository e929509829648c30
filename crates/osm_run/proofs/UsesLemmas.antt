-- Lemmas on the files of a plan: those of its first tasks, and what holds of each.
use Rattle.std.proofs.Common.{◌≡◌, ℕ, zero, suc, ◌+◌, ◌<◌, List, [], ◌∷◌, ◌++◌, length, take, drop, get_or, Bool, true, false, cond, refl, sym, ap, subst, ◌∙◌, arith, append_assoc, add-one, add-zero, drop-cons}
use Rattle.std.specs.Prelude.{Some, None, filter, flat_map}
use Rattle.std.specs.List.{AllByRecursion, enumerate_from}
use Rattle.std.proofs.Math.Seq.{take-suc, take-length}
use Rattle.std.proofs.lemmas.Grind.{flat_map-append}
use Rattle.std.proofs.lemmas.List.{append-nil, length-take, length-take-le, take-append-drop}
use Rattle.std.proofs.lemmas.List.Elements.{filter-append}
use Rattle.osm_run.specs.Plan.{File, Plan, Polygon, Sink, Source, Store, Use, is_polygon, is_sink, is_source, is_store, openings, uses, uses_of}
use Rattle.osm_run.specs.Opened.{ReadsOrWrites, opened_to, sink_name, source_name}
use Rattle.osm_run.proofs.EachLemmas.{all_append, all_every, all_left, all_right, filter_each, map_all}

-- numbered lists one after the other
pub enumerate_from-append : {X : Type 0} (n : ℕ) (xs ys : List X) →
    enumerate_from n (xs ++ ys) ≡ enumerate_from n xs ++ enumerate_from (n + length xs) ys
enumerate_from-append n [] ys = ap (λ k. enumerate_from k ys) (sym (add-zero n))
enumerate_from-append n (x ∷ xs) ys = ap (λ rest. (n, x) ∷ rest) (enumerate_from-append (n + 1) xs ys
    ∙ ap (λ k. enumerate_from (n + 1) xs ++ enumerate_from k ys)
    (let e : n + 1 + length xs ≡ n + suc (length xs) = omega arith in e))

-- the files of the tasks from a number on
abbrev pub uses_from : ℕ → Plan → List Use
uses_from n plan = flat_map uses_of (enumerate_from n plan)

pub uses_from-append : (n : ℕ) (plan more : Plan) →
    uses_from n (plan ++ more) ≡ uses_from n plan ++ uses_from (n + length plan) more
uses_from-append n plan more = ap (flat_map uses_of) (enumerate_from-append n plan more)
    ∙ flat_map-append uses_of (enumerate_from n plan) (enumerate_from (n + length plan) more)

-- the files of one task more
pub uses-take : (plan : Plan) (t : ℕ) → t < length plan →
    uses (take (t + 1) plan) ≡ uses (take t plan) ++ uses_of (t, get_or plan t [])
uses-take plan t within =
    ap (λ k. uses (take k plan)) (add-one t) ∙ ap uses (take-suc plan t [] within)
    ∙ uses_from-append 0 (take t plan) (get_or plan t [] ∷ [])
    ∙ ap (λ us. uses (take t plan) ++ us) (append-nil (uses_of (0 + length (take t plan), get_or plan t [])))
    ∙ ap (λ k. uses (take t plan) ++ uses_of (k, get_or plan t []))
    (let e : 0 + length (take t plan) ≡ t = omega (arith, length-take-le t plan (omega (arith, within))) in e)

pub uses-take_all : (plan : Plan) → uses (take (length plan) plan) ≡ uses plan
uses-take_all plan = ap uses (take-length plan)

-- what holds of the files of each task, by its number, holds of all
pub each_from : (P : Use → Type 0) (n : ℕ) (plan : Plan) → ((t : ℕ) → t < length plan →
    AllByRecursion P (uses_of (n + t, get_or plan t []))) → AllByRecursion P (uses_from n plan)
each_from P n [] each = tt
each_from P n (files ∷ plan) each =
    all_append P (uses_of (n, files)) (uses_from (n + 1) plan)
    (subst (λ k. AllByRecursion P (uses_of (k, files))) (add-zero n) (each 0 (omega arith)))
    (each_from P (n + 1) plan (λ t within.
    subst (λ k. AllByRecursion P (uses_of (k, get_or plan t [])))
    (let e : n + suc t ≡ n + 1 + t = omega arith in e)
    (each (suc t) (omega (arith, within)))))

pub each_use : (P : Use → Type 0) (plan : Plan) → ((t : ℕ) → t < length plan →
    AllByRecursion P (uses_of (t, get_or plan t []))) → AllByRecursion P (uses plan)
each_use P plan each = each_from P 0 plan (λ t within.
    subst (λ k. AllByRecursion P (uses_of (k, get_or plan t [])))
    (let e : t ≡ 0 + t = omega arith in e) (each t within))

-- what holds of each file that a task can have holds of its files
pub of_task : (P : Use → Type 0) (t : ℕ) (files : List File) → ((file : File) → P (t, file)) →
    AllByRecursion P (uses_of (t, files))
of_task P t files each = map_all P (λ file. (t, file)) files (all_every (λ file. P (t, file)) each files)

-- the files of the first tasks are those of tasks below
pub below_uses : (plan : Plan) (i : ℕ) → AllByRecursion (λ u. u.0 < i) (uses (take i plan))
below_uses plan i = each_use (λ u. u.0 < i) (take i plan) (λ t within.
    of_task (λ u. u.0 < i) t (get_or (take i plan) t []) (λ file. omega (arith, within, length-take i plan)))

-- a plan without a task that a test passes
pub filter_none : {X : Type 0} (test : X → Bool) (xs : List X) → AllByRecursion (λ x. test x ≡ false) xs →
    filter test xs ≡ []
filter_none test [] none = refl
filter_none test (x ∷ xs) none =
    ap (λ b. cond b (x ∷ filter test xs) (filter test xs)) none.0 ∙ filter_none test xs none.1

-- the files of one kind of one task more
filter_more : (test : Use → Bool) (plan : Plan) (t : ℕ) → t < length plan →
    filter test (uses (take (t + 1) plan))
    ≡ filter test (uses (take t plan)) ++ filter test (uses_of (t, get_or plan t []))
filter_more test plan t within =
    ap (filter test) (uses-take plan t within) ∙ filter-append test (uses (take t plan)) (uses_of (t, get_or plan t []))

-- the sources of one task more
sources_more : (plan : Plan) (t : ℕ) (files : List File) → t < length plan → get_or plan t [] ≡ files →
    filter is_source (uses (take (t + 1) plan))
    ≡ filter is_source (uses (take t plan)) ++ filter is_source (uses_of (t, files))
sources_more plan t files within is = filter_more is_source plan t within
    ∙ ap (λ fs. filter is_source (uses (take t plan)) ++ filter is_source (uses_of (t, fs))) is

sinks_more : (plan : Plan) (t : ℕ) (files : List File) → t < length plan → get_or plan t [] ≡ files →
    filter is_sink (uses (take (t + 1) plan))
    ≡ filter is_sink (uses (take t plan)) ++ filter is_sink (uses_of (t, files))
sinks_more plan t files within is = filter_more is_sink plan t within
    ∙ ap (λ fs. filter is_sink (uses (take t plan)) ++ filter is_sink (uses_of (t, fs))) is

-- what holds of a task with no file, with a source and with a sink holds of each that reads or writes
pub by_plain : (P : List File → Type 0) → P [] → ((name : List ℕ) → P (Source name ∷ [])) →
    ((name : List ℕ) → P (Sink name ∷ [])) → (files : List File) → ReadsOrWrites files → P files
by_plain P none source sink [] is = none
by_plain P none source sink (Source name ∷ []) is = source name
by_plain P none source sink (Sink name ∷ []) is = sink name
by_plain P none source sink (Polygon name ∷ []) is = absurd is
by_plain P none source sink (Store ∷ []) is = absurd is
by_plain P none source sink (Source name ∷ g ∷ files) is = absurd is
by_plain P none source sink (Sink name ∷ g ∷ files) is = absurd is
by_plain P none source sink (Polygon name ∷ g ∷ files) is = absurd is
by_plain P none source sink (Store ∷ g ∷ files) is = absurd is

-- a task of which no name of a source is there has none
no_source : (t : ℕ) (files : List File) → ReadsOrWrites files → source_name files ≡ None →
    filter is_source (uses_of (t, files)) ≡ []
no_source t files plain = by_plain (λ fs. source_name fs ≡ None → filter is_source (uses_of (t, fs)) ≡ [])
    (λ none. refl) (λ name none. absurd (let no : Some name ≡ None = none in cc)) (λ name none. refl) files plain

no_sink : (t : ℕ) (files : List File) → ReadsOrWrites files → sink_name files ≡ None →
    filter is_sink (uses_of (t, files)) ≡ []
no_sink t files plain = by_plain (λ fs. sink_name fs ≡ None → filter is_sink (uses_of (t, fs)) ≡ [])
    (λ none. refl) (λ name none. refl) (λ name none. absurd (let no : Some name ≡ None = none in cc)) files plain

-- a task whose source has this name has that file alone
pub source_files : (files : List File) (name : List ℕ) → source_name files ≡ Some name → files ≡ Source name ∷ []
source_files [] name is = let no : None ≡ Some name = is in cc
source_files (Source other ∷ []) name is = let same : Some other ≡ Some name = is in cc
source_files (Sink other ∷ []) name is = let no : None ≡ Some name = is in cc
source_files (Polygon other ∷ []) name is = let no : None ≡ Some name = is in cc
source_files (Store ∷ []) name is = let no : None ≡ Some name = is in cc
source_files (f ∷ g ∷ files) name is = several f g files name is where
  several : (f g : File) (files : List File) (name : List ℕ) → source_name (f ∷ g ∷ files) ≡ Some name →
      f ∷ g ∷ files ≡ Source name ∷ []
  several (Source other) g files name is = let no : None ≡ Some name = is in cc
  several (Sink other) g files name is = let no : None ≡ Some name = is in cc
  several (Polygon other) g files name is = let no : None ≡ Some name = is in cc
  several Store g files name is = let no : None ≡ Some name = is in cc

pub sink_files : (files : List File) (name : List ℕ) → sink_name files ≡ Some name → files ≡ Sink name ∷ []
sink_files [] name is = let no : None ≡ Some name = is in cc
sink_files (Sink other ∷ []) name is = let same : Some other ≡ Some name = is in cc
sink_files (Source other ∷ []) name is = let no : None ≡ Some name = is in cc
sink_files (Polygon other ∷ []) name is = let no : None ≡ Some name = is in cc
sink_files (Store ∷ []) name is = let no : None ≡ Some name = is in cc
sink_files (f ∷ g ∷ files) name is = several f g files name is where
  several : (f g : File) (files : List File) (name : List ℕ) → sink_name (f ∷ g ∷ files) ≡ Some name →
      f ∷ g ∷ files ≡ Sink name ∷ []
  several (Source other) g files name is = let no : None ≡ Some name = is in cc
  several (Sink other) g files name is = let no : None ≡ Some name = is in cc
  several (Polygon other) g files name is = let no : None ≡ Some name = is in cc
  several Store g files name is = let no : None ≡ Some name = is in cc

-- the task of a number reads or writes
pub plain_at : (plan : Plan) (t : ℕ) → AllByRecursion ReadsOrWrites plan → t < length plan →
    ReadsOrWrites (get_or plan t [])
plain_at [] t plain within = absurd (omega (arith, within))
plain_at (files ∷ plan) zero plain within = plain.0
plain_at (files ∷ plan) (suc t) plain within = plain_at plan t plain.1 (omega (arith, within))

-- the files opened once one source more is
pub opened_to-source : (plan : Plan) (t : ℕ) (name : List ℕ) → t < length plan → get_or plan t [] ≡ Source name ∷ [] →
    opened_to plan (t + 1) 0 ≡ opened_to plan t 0 ++ (t, Source name) ∷ []
opened_to-source plan t name within is =
    append-nil (filter is_source (uses (take (t + 1) plan)))
    ∙ sources_more plan t (Source name ∷ []) within is
    ∙ ap (λ us. us ++ (t, Source name) ∷ []) (sym (append-nil (filter is_source (uses (take t plan)))))

-- the same files, where the next task has no source
pub opened_to-skip_source : (plan : Plan) (t : ℕ) → t < length plan → ReadsOrWrites (get_or plan t []) →
    source_name (get_or plan t []) ≡ None → opened_to plan (t + 1) 0 ≡ opened_to plan t 0
opened_to-skip_source plan t within plain none =
    append-nil (filter is_source (uses (take (t + 1) plan)))
    ∙ sources_more plan t (get_or plan t []) within refl
    ∙ ap (λ us. filter is_source (uses (take t plan)) ++ us) (no_source t (get_or plan t []) plain none)

-- the files opened once one sink more is
pub opened_to-sink : (plan : Plan) (i t : ℕ) (name : List ℕ) → t < length plan → get_or plan t [] ≡ Sink name ∷ [] →
    opened_to plan i (t + 1) ≡ opened_to plan i t ++ (t, Sink name) ∷ []
opened_to-sink plan i t name within is =
    ap (λ us. filter is_source (uses (take i plan)) ++ us) (sinks_more plan t (Sink name ∷ []) within is)
    ∙ sym (append_assoc (filter is_source (uses (take i plan))) (filter is_sink (uses (take t plan)))
    ((t, Sink name) ∷ []))

pub opened_to-skip_sink : (plan : Plan) (i t : ℕ) → t < length plan → ReadsOrWrites (get_or plan t []) →
    sink_name (get_or plan t []) ≡ None → opened_to plan i (t + 1) ≡ opened_to plan i t
opened_to-skip_sink plan i t within plain none =
    ap (λ us. filter is_source (uses (take i plan)) ++ us)
    (sinks_more plan t (get_or plan t []) within refl
    ∙ ap (λ us. filter is_sink (uses (take t plan)) ++ us) (no_sink t (get_or plan t []) plain none)
    ∙ append-nil (filter is_sink (uses (take t plan))))

-- no file of a plan that reads or writes is a polygon file or a store
pub each_plain : (P : Use → Type 0) (plan : Plan) → AllByRecursion ReadsOrWrites plan →
    ((t : ℕ) (name : List ℕ) → P (t, Source name)) → ((t : ℕ) (name : List ℕ) → P (t, Sink name)) →
    AllByRecursion P (uses plan)
each_plain P plan plain source sink = each_use P plan (λ t within.
    by_plain (λ files. AllByRecursion P (uses_of (t, files))) tt (λ name. (source t name, tt))
    (λ name. (sink t name, tt))
    (get_or plan t []) (plain_at plan t plain within))

-- all files of such a plan, in the order in which they are opened
pub openings_are : (plan : Plan) → AllByRecursion ReadsOrWrites plan →
    openings plan ≡ filter is_source (uses plan) ++ filter is_sink (uses plan)
openings_are plan plain =
    let sources : List Use = filter is_source (uses plan) in
    let sinks : List Use = filter is_sink (uses plan) in
    ap (λ us. us ++ sources ++ filter is_store (uses plan) ++ sinks) (filter_none is_polygon (uses plan)
    (each_plain (λ u. is_polygon u ≡ false) plan plain (λ t name. refl) (λ t name. refl)))
    ∙ ap (λ us. sources ++ us ++ sinks) (filter_none is_store (uses plan)
    (each_plain (λ u. is_store u ≡ false) plan plain (λ t name. refl) (λ t name. refl)))
    ∙ ap (λ us. us ++ sinks) (append-nil sources)

pub opened_to-all : (plan : Plan) → AllByRecursion ReadsOrWrites plan →
    openings plan ≡ opened_to plan (length plan) (length plan)
opened_to-all plan plain = openings_are plan plain
    ∙ sym (ap (λ us. filter is_source us ++ filter is_sink us) (uses-take_all plan))

-- the files of the first tasks, and those of the others
pub uses-split : (plan : Plan) (k : ℕ) →
    uses plan ≡ uses (take k plan) ++ uses_from (length (take k plan)) (drop k plan)
uses-split plan k = ap uses (sym (take-append-drop k plan)) ∙ uses_from-append 0 (take k plan) (drop k plan)
    ∙ ap (λ n. uses (take k plan) ++ uses_from n (drop k plan))
    (let e : 0 + length (take k plan) ≡ length (take k plan) = omega arith in e)

filter-split : (test : Use → Bool) (plan : Plan) (k : ℕ) →
    filter test (uses plan)
    ≡ filter test (uses (take k plan)) ++ filter test (uses_from (length (take k plan)) (drop k plan))
filter-split test plan k = ap (filter test) (uses-split plan k)
    ∙ filter-append test (uses (take k plan)) (uses_from (length (take k plan)) (drop k plan))

-- the order of openings: after the sources of some tasks come others
pub order_at_source : (plan : Plan) (k : ℕ) → AllByRecursion ReadsOrWrites plan →
    (later : List Use) × (openings plan ≡ opened_to plan k 0 ++ later)
order_at_source plan k plain =
    let first : List Use = filter is_source (uses (take k plan)) in
    let rest : List Use = filter is_source (uses_from (length (take k plan)) (drop k plan)) in
    let sinks : List Use = filter is_sink (uses plan) in (
      rest ++ sinks,
      openings_are plan plain ∙ ap (λ us. us ++ sinks) (filter-split is_source plan k)
          ∙ append_assoc first rest sinks ∙ ap (λ us. us ++ (rest ++ sinks)) (sym (append-nil first)),
    )

-- and after all sources and the sinks of some tasks
pub order_at_sink : (plan : Plan) (k : ℕ) → AllByRecursion ReadsOrWrites plan →
    (later : List Use) × (openings plan ≡ opened_to plan (length plan) k ++ later)
order_at_sink plan k plain =
    let sources : List Use = filter is_source (uses plan) in
    let first : List Use = filter is_sink (uses (take k plan)) in
    let rest : List Use = filter is_sink (uses_from (length (take k plan)) (drop k plan)) in (
      rest,
      openings_are plan plain ∙ ap (λ us. sources ++ us) (filter-split is_sink plan k)
          ∙ sym (append_assoc sources first rest)
          ∙ ap (λ us. filter is_source us ++ first ++ rest) (sym (uses-take_all plan)),
    )

-- sources are no sinks
pub sources_no_sinks : (plan : Plan) (k : ℕ) → AllByRecursion (λ u. is_sink u ≡ false) (opened_to plan k 0)
sources_no_sinks plan k = subst (AllByRecursion (λ u. is_sink u ≡ false))
    (sym (append-nil (filter is_source (uses (take k plan)))))
    (filter_each (λ u. is_sink u ≡ false) is_source no_sink_source (uses (take k plan))) where
      no_sink_source : (u : Use) → is_source u ≡ true → is_sink u ≡ false
      no_sink_source (task, Polygon name) is = refl
      no_sink_source (task, Source name) is = refl
      no_sink_source (task, Store) is = refl
      no_sink_source (task, Sink name) is = let no : false ≡ true = is in cc

-- what holds of all files holds of those of the task of a number
pub use_at : (P : Use → Type 0) (plan : Plan) (t : ℕ) → t < length plan → AllByRecursion P (uses plan) →
    AllByRecursion P (uses_of (t, get_or plan t []))
use_at P plan t within all =
    let before : ℕ = length (take t plan) in
    let rest : AllByRecursion P (uses_from before (drop t plan)) = all_right P (uses (take t plan))
    (uses_from before (drop t plan)) (subst (AllByRecursion P) (uses-split plan t) all) in
    let here : AllByRecursion P (uses_of (before, get_or plan t [])) = all_left P (uses_of (before, get_or plan t []))
    (uses_from (before + 1) (drop (suc t) plan))
    (subst (λ xs. AllByRecursion P (uses_from before xs)) (drop-cons plan t [] within) rest) in
    subst (λ n. AllByRecursion P (uses_of (n, get_or plan t []))) (length-take-le t plan (omega (arith, within))) here
