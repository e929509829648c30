-- The meaning of a graph keeps what the meaning of each command keeps.
use Rattle.std.proofs.Common.{◌≡◌, ◌≢◌, ℕ, zero, suc, ◌<◌, List, [], ◌∷◌, length, Bool, true, inl, inr, refl, sym, ap, subst, ◌∙◌, arith}
use Rattle.std.specs.List.{AllByRecursion}
use Rattle.std.specs.Prelude.{Option}
use Rattle.osm_area.specs.declared.area.Area.{Area}
use Rattle.osm_entity.specs.Meaning.{Finish, Meaning, Whole, Passed, Cut, Wrong, finish_read}
use Rattle.osm_entity.specs.Readings.{Ending, Whole as ReadWhole, Cut as ReadCut, Bad, end_read}
use Rattle.osm_entity.specs.Streams.{Stream}
use Rattle.osm_entity.specs.Tasks.{TaskMeaning}
use Rattle.osm_entity.specs.declared.stream.End.TheVariants.{Done}
use Rattle.osm_entity.specs.declared.verdict.Cause.{Cause}
use Rattle.osm_entity.specs.declared.verdict.Spot.{Spot}
use Rattle.osm_graph.specs.Graphs.{GraphValue, IsGraph}
use Rattle.osm_graph.specs.Pipes.{pipe_of}
use Rattle.osm_machine.specs.ReadingFormats.{Format, limited_reading, reader_task}
use Rattle.osm_machine.specs.Written.{FileForm, writer_task}
use Rattle.osm_net.specs.Meaning.{rules_of}
use Rattle.osm_net.proofs.MeaningLemmas.{inputs_alike, one_meaning}
use Rattle.osm_tasks.specs.declared.kind.TaskKind.{TaskKind}
use Rattle.osm_machine.specs.TaskMeanings.{kind_meaning}
use Rattle.osm_run.specs.Commands.{Areas, AreTasksKept, all_kind_files, areas_said, command_of_graph, courses_of, graph_meaning, inputs_at, kind_at, kind_files, plan_by, streams_of, task_meant}
use Rattle.osm_run.specs.Course.{source_limit, wrong_fault}
use Rattle.osm_run.specs.Lawful.{EndCame, EndsWhole, GoesOnAlike, IsLawful, IsRight, IsSameMeaning}
use Rattle.osm_run.specs.Plan.{File, Plan, Source, numbered, uses}
use Rattle.osm_run.proofs.EachLemmas.{all_every}
use Rattle.osm_run.proofs.FormatLemmas.{came_uncut, limited_settled}
use Rattle.osm_run.proofs.GraphMeaningLemmas.{input_at, meant_alike, outputs_are, source_known, streams_are_meant}
use Rattle.osm_run.proofs.KindFilesLemmas.{area_alike, open_file}
use Rattle.osm_run.proofs.KindLemmas.{SameOf, SortOfKind, Reads, Writes, Sees, reader_same, sort_of_kind}
use Rattle.osm_run.proofs.SeesLemmas.{InputsDone, after_done}
use Rattle.osm_run.proofs.PlaceLemmas.{files_planned, files_planned_at, tasks_planned, tasks_planned_at}

-- ---- whole

-- a task ends whole, and its outputs are done, where its inputs are and it finds nothing wrong
WholeWhereRight : List ℕ → Bool → (ℕ → Stream) → TaskMeaning → Type 0
WholeWhereRight bytes came f task = InputsDone task f →
    ((cause : Cause) (spot : Spot) → task.finish bytes came f ≢ Wrong cause spot) →
    (task.finish bytes came f ≡ Whole)
    × ((port : ℕ) → port < task.outputs → (task.gives bytes came f port).end ≡ Done)

read_whole : (ending : Ending) → (ending ≡ ReadCut → ⊥) →
    ((cause : Cause) (spot : Spot) → finish_read ending ≢ Wrong cause spot) →
    (finish_read ending ≡ Whole) × (end_read ending ≡ Done)
read_whole ReadWhole uncut right = (refl, refl)
read_whole ReadCut uncut right = absurd (uncut refl)
read_whole (Bad cause spot) uncut right = absurd (right cause spot refl)

reader_whole : (format : Format) (limit : ℕ) (bytes : List ℕ) (came : Bool) (f : ℕ → Stream) → came ≡ true →
    WholeWhereRight bytes came f (reader_task format limit)
unfolding WholeWhereRight
reader_whole format limit bytes came f is done right =
    let both = read_whole (limited_reading format limit bytes came).ending
    (came_uncut format limit bytes came is) right in
    (both.0, λ port known. both.1)

writer_whole : (form : FileForm) (bytes : List ℕ) (came : Bool) (f : ℕ → Stream) →
    WholeWhereRight bytes came f (writer_task form)
unfolding WholeWhereRight
writer_whole form bytes came f done right =
    (after_done (f 0).end (done 0 (omega arith)), λ port known. absurd (omega (arith, known)))

sort_whole : (kind : TaskKind) (area : Option Area) (bytes : List ℕ) (came : Bool) (f : ℕ → Stream) →
    SortOfKind kind area → ((name : List ℕ) → kind_files kind ≡ Source name ∷ [] → came ≡ true) →
    WholeWhereRight bytes came f (kind_meaning kind area)
unfolding WholeWhereRight
sort_whole kind area bytes came f (Reads format name files meant) end =
    subst (WholeWhereRight bytes came f) (sym meant)
    (reader_whole format source_limit bytes came f (end name files))
sort_whole kind area bytes came f (Writes form name files meant) end =
    subst (WholeWhereRight bytes came f) (sym meant) (writer_whole form bytes came f)
sort_whole kind area bytes came f (Sees idle sees) end = sees.whole bytes came f

not_wrong : (t : ℕ) (finish : Finish) → wrong_fault t finish ≡ [] → (cause : Cause) (spot : Spot) →
    finish ≢ Wrong cause spot
not_wrong t Whole none cause spot is = cc
not_wrong t Passed none cause spot is = cc
not_wrong t Cut none cause spot is = cc
not_wrong t (Wrong at where_at) none cause spot is = cc

-- ---- settled

-- what holds of the one file of a reader
pub of_source : (P : File → Type 0) (files : List File) (name : List ℕ) → files ≡ Source name ∷ [] →
    AllByRecursion P files → P (Source name)
of_source P files name is all = (subst (AllByRecursion P) is all).0

module _ (g : GraphValue) (graph : IsGraph g) (kept : AreTasksKept g.tasks) where
  abbrev whole_plan : Plan
  whole_plan = plan_by all_kind_files g.tasks

  abbrev areas : (ℕ → List ℕ) → Areas
  areas bytes = areas_said g.tasks bytes

  abbrev meaning : (ℕ → List ℕ) → (ℕ → Bool) → Meaning
  meaning bytes clean = graph_meaning g (areas bytes) bytes clean

  abbrev streams : (ℕ → List ℕ) → (ℕ → Bool) → ℕ → Stream
  streams bytes clean = streams_of g (areas bytes) bytes clean

  abbrev inputs : (ℕ → List ℕ) → (ℕ → Bool) → ℕ → ℕ → Stream
  inputs bytes clean t = inputs_at g (areas bytes) bytes clean t

  abbrev task : (ℕ → List ℕ) → ℕ → TaskMeaning
  task bytes t = task_meant g.tasks (areas bytes) t

  came_at : (clean : ℕ → Bool) → AllByRecursion (EndCame clean) (uses whole_plan) → (t : ℕ) →
      t < length g.tasks → (name : List ℕ) → kind_files (kind_at g.tasks t) ≡ Source name ∷ [] → clean t ≡ true
  came_at clean ends t known name files =
      of_source (λ file. EndCame clean (t, file)) (all_kind_files (kind_at g.tasks t)) name
      (open_file (kind_at g.tasks t) (Source name) files)
      (files_planned_at all_kind_files (EndCame clean) g.tasks ends t known)

  module _ (bytes : ℕ → List ℕ) (clean : ℕ → Bool) (ends : AllByRecursion (EndCame clean) (uses whole_plan))
      (right : AllByRecursion (IsRight (meaning bytes clean)) (numbered whole_plan)) where
    task_whole : (t : ℕ) → t < length g.tasks → InputsDone (task bytes t) (inputs bytes clean t) →
        ((task bytes t).finish (bytes t) (clean t) (inputs bytes clean t) ≡ Whole)
        × ((port : ℕ) → port < (task bytes t).outputs →
        ((task bytes t).gives (bytes t) (clean t) (inputs bytes clean t) port).end ≡ Done)
    unfolding WholeWhereRight
    task_whole t known done =
        sort_whole (kind_at g.tasks t) (areas bytes t) (bytes t) (clean t) (inputs bytes clean t)
        (sort_of_kind (kind_at g.tasks t) (areas bytes t)) (came_at clean ends t known) done
        (not_wrong t ((meaning bytes clean).finish t)
        (tasks_planned_at all_kind_files (IsRight (meaning bytes clean)) g.tasks right t known))

    done_below : (n p : ℕ) → p < length g.pipes → (pipe_of g.pipes p).from < n →
        (streams bytes clean p).end ≡ Done
    done_below zero p known below = absurd (omega (arith, below))
    done_below (suc n) p known below =
        let t : ℕ = (pipe_of g.pipes p).from in
        let there : t < length g.tasks = source_known g graph p known in
        let out : (pipe_of g.pipes p).from_port < (task bytes t).outputs =
        omega (arith, graph.whole.from_port p known, outputs_are g.tasks (areas bytes) kept t there) in
        ap (λ (s : Stream). s.end) ((streams_are_meant g graph (areas bytes) bytes clean).by_rule p known)
        ∙ (task_whole t there (input_at g graph (areas bytes) kept (streams bytes clean) (λ s. s.end ≡ Done) t there
        (λ q joined ahead. done_below n q joined (omega (arith, ahead, below))))).1 (pipe_of g.pipes p).from_port out

    graph_whole : AllByRecursion (EndsWhole (meaning bytes clean)) (numbered whole_plan)
    graph_whole = tasks_planned all_kind_files (EndsWhole (meaning bytes clean)) g.tasks
        (λ t known. (task_whole t known (input_at g graph (areas bytes) kept (streams bytes clean) (λ s. s.end ≡ Done) t
        known (λ q joined ahead. done_below t q joined ahead))).0)

  module _ (bytes more : ℕ → List ℕ) (clean end : ℕ → Bool)
      (alike : AllByRecursion (GoesOnAlike (command_of_graph g) bytes more clean end) (uses whole_plan)) where
    -- a task has the same area
    area_same : (t : ℕ) → t < length g.tasks → areas more t ≡ areas bytes t
    area_same t known = area_alike (kind_at g.tasks t) (bytes t) (more t)
        (λ name files. (subst (AllByRecursion (λ file. GoesOnAlike (command_of_graph g) bytes more clean end (t, file)))
        files (files_planned_at all_kind_files (GoesOnAlike (command_of_graph g) bytes more clean end) g.tasks alike t
        known)).0)

    -- a reader reads the same
    read_same : (t : ℕ) (format : Format) (name : List ℕ) →
        kind_meaning (kind_at g.tasks t) (areas bytes t) ≡ reader_task format source_limit →
        GoesOnAlike (command_of_graph g) bytes more clean end (t, Source name) →
        limited_reading format source_limit (more t) (end t) ≡ limited_reading format source_limit (bytes t) (clean t)
    read_same t format name meant (inl same) =
        ap (λ b. limited_reading format source_limit b (end t)) same.0
        ∙ ap (limited_reading format source_limit (bytes t)) same.1
    read_same t format name meant (inr wrong) =
        ap (λ b. limited_reading format source_limit b (end t)) wrong.joined
        ∙ limited_settled format source_limit (bytes t) wrong.rest (clean t) (end t) wrong.cause wrong.spot wrong.cut
        (subst (λ task. task.finish (bytes t) (clean t) (inputs bytes clean t)
        ≡ Wrong wrong.cause wrong.spot) meant
        wrong.wrong)

    sort_same : (t : ℕ) (f : ℕ → Stream) → t < length g.tasks → SortOfKind (kind_at g.tasks t) (areas bytes t) →
        SameOf (bytes t) (more t) (clean t) (end t) f (task bytes t)
    unfolding SameOf
    sort_same t f known (Reads format name files meant) =
        subst (SameOf (bytes t) (more t) (clean t) (end t) f) (sym meant)
        (reader_same format source_limit (bytes t) (more t) (clean t) (end t) f
        (read_same t format name meant
        (of_source (λ file. GoesOnAlike (command_of_graph g) bytes more clean end (t, file))
        (all_kind_files (kind_at g.tasks t)) name (open_file (kind_at g.tasks t) (Source name) files)
        (files_planned_at all_kind_files (GoesOnAlike (command_of_graph g) bytes more clean end) g.tasks alike t
        known))))
    sort_same t f known (Writes form name files meant) =
        subst (SameOf (bytes t) (more t) (clean t) (end t) f) (sym meant) (λ port. refl, refl)
    sort_same t f known (Sees idle sees) = (
      λ port. sees.gives (more t) (bytes t) (end t) (clean t) f port,
      sees.finish (more t) (bytes t) (end t) (clean t) f,
    )

    same_at : (t : ℕ) (f : ℕ → Stream) → t < length g.tasks →
        SameOf (bytes t) (more t) (clean t) (end t) f (task bytes t)
    same_at t f known = sort_same t f known (sort_of_kind (kind_at g.tasks t) (areas bytes t))

    -- the task of a number is the same
    task_same : (t : ℕ) → t < length g.tasks → task more t ≡ task bytes t
    task_same t known = ap (kind_meaning (kind_at g.tasks t)) (area_same t known)

    gives_same : (t : ℕ) (f : ℕ → Stream) (port : ℕ) → t < length g.tasks →
        (task more t).gives (more t) (end t) f port ≡ (task bytes t).gives (bytes t) (clean t) f port
    unfolding SameOf
    gives_same t f port known =
        ap (λ (m : TaskMeaning). m.gives (more t) (end t) f port) (task_same t known) ∙ (same_at t f known).0 port

    streams_same : (p : ℕ) → p < length g.pipes → streams more end p ≡ streams bytes clean p
    streams_same = one_meaning g.pipes (rules_of (courses_of g.tasks (areas bytes) bytes clean)) (streams more end)
        (streams bytes clean) graph.whole.forward
        (meant_alike g graph (rules_of (courses_of g.tasks (areas more) more end))
        (rules_of (courses_of g.tasks (areas bytes) bytes clean)) gives_same (streams more end)
        (streams_are_meant g graph (areas more) more end))
        (streams_are_meant g graph (areas bytes) bytes clean)

    inputs_same : (t : ℕ) → inputs more end t ≡ inputs bytes clean t
    inputs_same t = inputs_alike g.pipes (streams more end) (streams bytes clean) t
        (λ p known joins. streams_same p known)

    graph_settled : IsSameMeaning whole_plan (meaning bytes clean) (meaning more end)
    unfolding SameOf
    graph_settled = record {
      finish = tasks_planned all_kind_files (λ t. (meaning more end).finish t.0 ≡ (meaning bytes clean).finish t.0) g.tasks
          (λ t known. ap (λ (m : TaskMeaning). m.finish (more t) (end t) (inputs more end t)) (task_same t known)
          ∙ (same_at t (inputs more end t) known).1
          ∙ ap ((task bytes t).finish (bytes t) (clean t)) (inputs_same t));
      bytes = files_planned all_kind_files (λ u. (meaning more end).bytes u.0 ≡ (meaning bytes clean).bytes u.0) g.tasks
          (λ t known. all_every
          (λ file. (meaning more end).bytes t ≡ (meaning bytes clean).bytes t)
          (λ file. ap (λ (m : TaskMeaning). m.text (inputs more end t)) (task_same t known)
          ∙ ap (task bytes t).text (inputs_same t)) (all_kind_files (kind_at g.tasks t)));
    }

  -- the command of a graph is lawful
  pub graph_lawful : IsLawful (command_of_graph g)
  graph_lawful = record {
    whole = λ bytes clean ends right. graph_whole bytes clean ends right;
    settled = λ bytes more clean end alike. graph_settled bytes more clean end alike;
  }
