-- A command whose first polygon files were read, and what runs behind that.
use Rattle.std.proofs.Common.{◌≡◌, ◌≢◌, ℕ, suc, ◌+◌, ◌<◌, ◌≤◌, List, [], ◌∷◌, ◌++◌, length, take, drop, Bool, true, false, inl, inr, refl, sym, ap, ◌∙◌, append_assoc, arith, drop-cons}
use Rattle.std.specs.Prelude.{get_or, if◌then◌else◌, nat_lt, Option, Some, None, Ok}
use Rattle.std.specs.List.{AllByRecursion, enumerate_from}
use Rattle.std.proofs.Math.Path.{fun_ext}
use Rattle.std.proofs.lemmas.Bool.{cases_eq, cases_lt, cases_order, eq-eqb, le-ltb, lt-ltb, ne_eqb}
use Rattle.std.proofs.lemmas.List.{append-nil, drop_all, get_or_past, length-take-le, map-append, take_all, take_more}
use Rattle.osm_area.specs.declared.area.Area.{Area}
use Rattle.osm_entity.specs.Streams.{Stream}
use Rattle.osm_graph.specs.Graphs.{GraphValue, no_task}
use Rattle.osm_machine.specs.TaskMeanings.{kind_meaning, reads_area}
use Rattle.osm_net.specs.Meaning.{Rules, messages_in, rules_of, streams_by, streams_into}
use Rattle.osm_poly.specs.Poly.{poly}
use Rattle.osm_tasks.specs.Tasks.{TaskValue}
use Rattle.osm_tasks.specs.declared.kind.TaskKind.{TaskKind}
use Rattle.osm_run.specs.Command.{Command}
use Rattle.osm_run.specs.Commands.{Areas, all_kind_files, area_at, area_in, areas_said, command_by, command_of_graph, command_with, courses_of, finish_poly, graph_meaning, inputs_at, kind_at, kind_files, plan_by, plan_of, streams_of, task_meant}
use Rattle.osm_run.specs.Course.{Course, meaning_of, polygon_limit, source_limit}
use Rattle.osm_run.specs.Plan.{File, Plan, Polygon, numbered}
use Rattle.osm_run.specs.Went.{messages_by}
use Rattle.osm_run.proofs.HeldLemmas.{no_polygon}
use Rattle.osm_run.proofs.KindFilesLemmas.{FilesOfKind, NoPolygon, OnlyPolygon, files_of_kind}
use Rattle.osm_run.proofs.KindLemmas.{Reads, Sees, SortOfKind, Writes, sort_of_kind}
use Rattle.osm_run.proofs.SeesLemmas.{SeesInputs}
use Rattle.osm_run.proofs.PastLemmas.{HasFirst, IsPast, course_past}
use Rattle.osm_run.proofs.PlaceLemmas.{length_planned, numbered_all}
use Rattle.osm_run.proofs.UsesLemmas.{enumerate_from-append}

-- ---- kinds that have an area of a file

-- a kind with an area of a file sees only its inputs, whatever came of the file
sees_by : (kind : TaskKind) (area : Option Area) → FilesOfKind kind → SortOfKind kind area → reads_area kind ≡ true →
    SeesInputs (kind_meaning kind area)
sees_by kind area files (Sees none sees) reads = sees
sees_by kind area (OnlyPolygon name is all none) (Reads format file source meant) reads =
    absurd (let no : [] ≡ _ ∷ [] = sym none ∙ source in cc)
sees_by kind area (OnlyPolygon name is all none) (Writes form file sink meant) reads =
    absurd (let no : [] ≡ _ ∷ [] = sym none ∙ sink in cc)
sees_by kind area (NoPolygon is all) (Reads format file source meant) reads =
    absurd (let no : false ≡ true = sym is ∙ reads in cc)
sees_by kind area (NoPolygon is all) (Writes form file sink meant) reads =
    absurd (let no : false ≡ true = sym is ∙ reads in cc)

area_sees : (kind : TaskKind) (area : Option Area) → reads_area kind ≡ true → SeesInputs (kind_meaning kind area)
area_sees kind area reads = sees_by kind area (files_of_kind kind) (sort_of_kind kind area) reads

-- ---- what a graph means, where only what came of one polygon file differs

module _ (g : GraphValue) (areas : Areas) (n : ℕ) (bytes more : ℕ → List ℕ) (clean end : ℕ → Bool)
    (reads : reads_area (kind_at g.tasks n) ≡ true) (same_bytes : (x : ℕ) → x ≢ n → bytes x ≡ more x)
    (same_clean : (x : ℕ) → x ≢ n → clean x ≡ end x) where
  gives_same : (x : ℕ) (f : ℕ → Stream) (port : ℕ) →
      (task_meant g.tasks areas x).gives (bytes x) (clean x) f port
      ≡ (task_meant g.tasks areas x).gives (more x) (end x) f port
  gives_same x f port = elim (cases_eq x n) [
    | inl is ↦ (area_sees (kind_at g.tasks x) (areas x) (ap (λ y. reads_area (kind_at g.tasks y)) is ∙ reads)).gives
        (bytes x) (more x) (clean x) (end x) f port
    | inr other ↦ ap (λ b. (task_meant g.tasks areas x).gives b (clean x) f port) (same_bytes x other)
        ∙ ap (λ b. (task_meant g.tasks areas x).gives (more x) b f port) (same_clean x other)
  ]

  finish_same : (x : ℕ) (f : ℕ → Stream) →
      (task_meant g.tasks areas x).finish (bytes x) (clean x) f
      ≡ (task_meant g.tasks areas x).finish (more x) (end x) f
  finish_same x f = elim (cases_eq x n) [
    | inl is ↦ (area_sees (kind_at g.tasks x) (areas x) (ap (λ y. reads_area (kind_at g.tasks y)) is ∙ reads)).finish
        (bytes x) (more x) (clean x) (end x) f
    | inr other ↦ ap (λ b. (task_meant g.tasks areas x).finish b (clean x) f) (same_bytes x other)
        ∙ ap (λ b. (task_meant g.tasks areas x).finish (more x) b f) (same_clean x other)
  ]

  rules_same : rules_of (courses_of g.tasks areas bytes clean) ≡ rules_of (courses_of g.tasks areas more end)
  rules_same = fun_ext (λ x. fun_ext (λ f. fun_ext (λ port. gives_same x f port)))

  pub streams_same : streams_of g areas bytes clean ≡ streams_of g areas more end
  streams_same = ap (λ (rules : Rules). streams_by g.pipes rules (length g.tasks)) rules_same

  inputs_same : (x : ℕ) → inputs_at g areas bytes clean x ≡ inputs_at g areas more end x
  inputs_same x = ap (λ (streams : ℕ → Stream). streams_into g.pipes streams x) streams_same

  pub meaning_same : graph_meaning g areas bytes clean ≡ graph_meaning g areas more end
  meaning_same =
      let finish : (graph_meaning g areas bytes clean).finish ≡ (graph_meaning g areas more end).finish =
      fun_ext (λ x. finish_same x (inputs_at g areas bytes clean x)
      ∙ ap ((task_meant g.tasks areas x).finish (more x) (end x)) (inputs_same x)) in
      let text : (graph_meaning g areas bytes clean).bytes ≡ (graph_meaning g areas more end).bytes =
      fun_ext (λ x. ap (task_meant g.tasks areas x).text (inputs_same x)) in
      λ i. record { finish = finish i; bytes = text i }

-- ---- commands whose first polygon files were read

-- the plan of tasks of which the first have no polygon file any more
abbrev pub plan_from : ℕ → List TaskValue → Plan
plan_from n tasks = plan_by kind_files (take n tasks) ++ plan_by all_kind_files (drop n tasks)

-- the areas of tasks, of which the first are known, and the others are what is read of their files
abbrev pub areas_from : ℕ → Areas → List TaskValue → (ℕ → List ℕ) → Areas
areas_from n areas tasks bytes t = if nat_lt t n then areas t else areas_said tasks bytes t

-- the command of a graph whose first polygon files were read
abbrev pub command_from : ℕ → GraphValue → Areas → Command
command_from n g areas = command_by g (plan_from n g.tasks) (areas_from n areas g.tasks)

-- where none was read it is the command of the graph
pub from_none : (g : GraphValue) (areas : Areas) → command_from 0 g areas ≡ command_of_graph g
from_none g areas = ap (command_by g (plan_by all_kind_files g.tasks))
    (fun_ext (λ bytes. fun_ext (λ t.
    ap (λ b. if b then areas t else areas_said g.tasks bytes t) (le-ltb t 0 (omega arith)))))

-- a task that isn't there has no area
past_area : (tasks : List TaskValue) (bytes : ℕ → List ℕ) (t : ℕ) → length tasks ≤ t →
    areas_said tasks bytes t ≡ None
past_area tasks bytes t le =
    ap (λ (task : TaskValue). if reads_area task.kind then area_in (poly (bytes t)) else None)
    (get_or_past tasks t no_task le)

-- where all were read it is the command with their areas
pub from_all : (g : GraphValue) (areas : List (Option Area)) → length areas ≡ length g.tasks →
    command_from (length g.tasks) g (area_at areas) ≡ command_with g (area_at areas)
from_all g areas count =
    let plan : plan_from (length g.tasks) g.tasks ≡ plan_of g.tasks =
    ap (λ ts. plan_of ts ++ plan_by all_kind_files (drop (length g.tasks) g.tasks))
    (take_all (length g.tasks) g.tasks (omega arith))
    ∙ ap (λ ts. plan_of g.tasks ++ plan_by all_kind_files ts) (drop_all (length g.tasks) g.tasks (omega arith))
    ∙ append-nil (plan_of g.tasks) in
    let same : (bytes : ℕ → List ℕ) (t : ℕ) →
    areas_from (length g.tasks) (area_at areas) g.tasks bytes t ≡ area_at areas t =
    λ bytes t. elim (cases_lt t (length g.tasks)) [
      | inl less ↦ ap (λ b. if b then area_at areas t else areas_said g.tasks bytes t)
          (lt-ltb t (length g.tasks) less)
      | inr le ↦ ap (λ b. if b then area_at areas t else areas_said g.tasks bytes t)
          (le-ltb t (length g.tasks) le)
          ∙ past_area g.tasks bytes t le ∙ sym (get_or_past areas t None (omega (arith, le, count)))
    ] in
    ap (λ p. command_by g p (areas_from (length g.tasks) (area_at areas) g.tasks)) plan
    ∙ ap (command_by g (plan_of g.tasks)) (fun_ext (λ bytes. fun_ext (λ t. same bytes t)))

module _ (g : GraphValue) (n : ℕ) (within : n < length g.tasks) (areas next : Areas)
    (earlier : (t : ℕ) → t < n → next t ≡ areas t) where
  abbrev here : TaskKind
  here = kind_at g.tasks n

  -- the tasks before and behind it
  taken : take (suc n) g.tasks ≡ take n g.tasks ++ get_or g.tasks n no_task ∷ []
  taken = ap (λ m. take m g.tasks) (let e : suc n ≡ n + 1 = omega arith in e) ∙ take_more g.tasks n no_task within

  dropped : drop n g.tasks ≡ get_or g.tasks n no_task ∷ drop (suc n) g.tasks
  dropped = drop-cons g.tasks n no_task within

  abbrev before_it : Plan
  before_it = plan_by kind_files (take n g.tasks)

  abbrev behind_it : Plan
  behind_it = plan_by all_kind_files (drop (suc n) g.tasks)

  pub plan_here : plan_from n g.tasks ≡ before_it ++ all_kind_files here ∷ behind_it
  plan_here = ap (λ ts. before_it ++ plan_by all_kind_files ts) dropped

  plan_next : plan_from (suc n) g.tasks ≡ before_it ++ kind_files here ∷ behind_it
  plan_next =
      ap (λ ts. plan_by kind_files ts ++ behind_it) taken
      ∙ ap (λ p. p ++ behind_it)
      (map-append (λ (task : TaskValue). kind_files task.kind) (take n g.tasks) (get_or g.tasks n no_task ∷ []))
      ∙ append_assoc before_it (kind_files here ∷ []) behind_it

  -- ---- a task without a polygon file

  module _ (reads : reads_area here ≡ false) (files : all_kind_files here ≡ kind_files here)
      (none : next n ≡ None) where
    areas_skip : (bytes : ℕ → List ℕ) (t : ℕ) →
        areas_from n areas g.tasks bytes t ≡ areas_from (suc n) next g.tasks bytes t
    areas_skip bytes t = elim (cases_order t n) [
      | inr (inl less) ↦ ap (λ b. if b then areas t else areas_said g.tasks bytes t) (lt-ltb t n less)
          ∙ sym (earlier t less)
          ∙ sym (ap (λ b. if b then next t else areas_said g.tasks bytes t) (lt-ltb t (suc n) (omega (arith, less))))
      | inl is ↦ ap (λ b. if b then areas t else areas_said g.tasks bytes t) (le-ltb t n (omega (arith, is)))
          ∙ ap (λ b. if b then area_in (poly (bytes t)) else None) (ap (λ y. reads_area (kind_at g.tasks y)) is ∙ reads)
          ∙ sym none ∙ ap next (sym is)
          ∙ sym (ap (λ b. if b then next t else areas_said g.tasks bytes t) (lt-ltb t (suc n) (omega (arith, is))))
      | inr (inr more) ↦ ap (λ b. if b then areas t else areas_said g.tasks bytes t) (le-ltb t n (omega (arith, more)))
          ∙ sym (ap (λ b. if b then next t else areas_said g.tasks bytes t) (le-ltb t (suc n) (omega (arith, more))))
    ]

    pub skipped : command_from n g areas ≡ command_from (suc n) g next
    skipped =
        ap (λ p. command_by g p (areas_from n areas g.tasks))
        (plan_here ∙ ap (λ fs. before_it ++ fs ∷ behind_it) files ∙ sym plan_next)
        ∙ ap (command_by g (plan_from (suc n) g.tasks)) (fun_ext (λ bytes. fun_ext (λ t. areas_skip bytes t)))

  -- ---- a task whose polygon file was read

  module _ (reads : reads_area here ≡ true) (name : List ℕ) (files : all_kind_files here ≡ Polygon name ∷ [])
      (idle : kind_files here ≡ []) where
    before_count : length before_it ≡ n
    before_count = length_planned kind_files (take n g.tasks)
        ∙ length-take-le n g.tasks (omega (arith, within))

    pub numbers_of : (fs : List File) → numbered (before_it ++ fs ∷ behind_it)
        ≡ numbered before_it ++ (n, fs) ∷ enumerate_from (n + 1) behind_it
    numbers_of fs = enumerate_from-append 0 before_it (fs ∷ behind_it)
        ∙ ap (λ m. numbered before_it ++ enumerate_from m (fs ∷ behind_it))
        (let e : 0 + length before_it ≡ n = omega (arith, before_count) in e)

    abbrev pub has_first : HasFirst (command_from n g areas) n name
    has_first = record {
      first = numbered before_it;
      rest = enumerate_from (n + 1) behind_it;
      numbers = ap numbered (plan_here ∙ ap (λ fs. before_it ++ fs ∷ behind_it) files) ∙ numbers_of (Polygon name ∷ []);
      no_polygon = no_polygon (take n g.tasks);
    }

    module _ (area : Area) (bytes : List ℕ) (says : poly bytes ≡ Ok area) (few : length bytes ≤ polygon_limit)
        (is_next : next n ≡ Some area) (c : Course) where
      abbrev past : Course
      past = course_past n name bytes c

      abbrev read_here : ℕ → List ℕ
      read_here t = take source_limit (past.given t)

      abbrev read_past : ℕ → List ℕ
      read_past t = take source_limit (c.given t)

      same_read : (t : ℕ) → t ≢ n → read_here t ≡ read_past t
      same_read t other = ap (λ b. take source_limit (if b then bytes else c.given t)) (ne_eqb t n other)

      same_end : (t : ℕ) → t ≢ n → past.clean t ≡ c.clean t
      same_end t other = ap (λ b. if b then true else c.clean t) (ne_eqb t n other)

      own_read : read_here n ≡ bytes
      own_read = ap (λ b. take source_limit (if b then bytes else c.given n)) (eq-eqb n n refl)
          ∙ take_all source_limit bytes (omega (arith, few))

      areas_read : (t : ℕ) →
          areas_from n areas g.tasks read_here t ≡ areas_from (suc n) next g.tasks read_past t
      areas_read t = elim (cases_order t n) [
        | inr (inl less) ↦ ap (λ b. if b then areas t else areas_said g.tasks read_here t) (lt-ltb t n less)
            ∙ sym (earlier t less)
            ∙ sym (ap (λ b. if b then next t else areas_said g.tasks read_past t)
            (lt-ltb t (suc n) (omega (arith, less))))
        | inl is ↦
            ap (λ b. if b then areas t else areas_said g.tasks read_here t) (le-ltb t n (omega (arith, is)))
            ∙ ap (areas_said g.tasks read_here) is
            ∙ ap (λ b. if b then area_in (poly (read_here n)) else None) reads
            ∙ ap (λ b. area_in (poly b)) own_read ∙ ap area_in says ∙ sym is_next ∙ ap next (sym is)
            ∙ sym (ap (λ b. if b then next t else areas_said g.tasks read_past t)
            (lt-ltb t (suc n) (omega (arith, is))))
        | inr (inr more) ↦
            ap (λ b. if b then areas t else areas_said g.tasks read_here t) (le-ltb t n (omega (arith, more)))
            ∙ ap (λ b. if reads_area (kind_at g.tasks t) then area_in (poly b) else None)
            (same_read t (λ is. absurd (omega (arith, more, is))))
            ∙ sym (ap (λ b. if b then next t else areas_said g.tasks read_past t)
            (le-ltb t (suc n) (omega (arith, more))))
      ]

      areas_same : areas_from n areas g.tasks read_here ≡ areas_from (suc n) next g.tasks read_past
      areas_same = fun_ext areas_read

      pub meant_past : meaning_of (command_from n g areas) past ≡ meaning_of (command_from (suc n) g next) c
      meant_past =
          ap (λ a. graph_meaning g a read_here past.clean) areas_same
          ∙ meaning_same g (areas_from (suc n) next g.tasks read_past) n read_here read_past past.clean c.clean reads
          same_read same_end

      pub messages_past : messages_by (command_from n g areas) past ≡ messages_by (command_from (suc n) g next) c
      messages_past =
          ap (λ a. messages_in g.pipes (streams_of g a read_here past.clean)) areas_same
          ∙ ap (messages_in g.pipes)
          (streams_same g (areas_from (suc n) next g.tasks read_past) n read_here read_past past.clean c.clean reads
          same_read same_end)

    others_before : AllByRecursion (λ x. x.0 ≢ n) (numbered before_it)
    others_before = numbered_all (λ x. x.0 ≢ n) [] 0 before_it
        (λ t known is. absurd (omega (arith, known, before_count, is)))

    others_behind : AllByRecursion (λ x. x.0 ≢ n) (enumerate_from (n + 1) behind_it)
    others_behind = numbered_all (λ x. x.0 ≢ n) [] (n + 1) behind_it
        (λ t known is. absurd (omega (arith, is)))

    pub is_past : (area : Area) (bytes : List ℕ) → poly bytes ≡ Ok area → length bytes ≤ polygon_limit →
        next n ≡ Some area → IsPast (command_from n g areas) (command_from (suc n) g next) n name bytes
    is_past area bytes says few is_next = record {
      has = has_first;
      numbers = ap numbered (plan_next ∙ ap (λ fs. before_it ++ fs ∷ behind_it) idle) ∙ numbers_of [];
      first_others = others_before;
      rest_others = others_behind;
      area = ap finish_poly says;
      same_area = refl;
      leads = refl;
      meant = meant_past area bytes says few is_next;
      messages = messages_past area bytes says few is_next;
      few = few;
    }
