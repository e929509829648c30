-- What the refusal of words says, and that words that are not refused run their command.
use Rattle.std.proofs.Common.{◌≡◌, ℕ, List, [], Bool, true, false, inl, inr, sym, ap, subst, ◌∙◌, arith}
use Rattle.std.specs.Prelude.{◌≢◌, ◌↔◌, ◌⊎◌, Result, Ok, Err}
use Rattle.osm_circle.specs.Circles.{IsBareCircle}
use Rattle.osm_circle.specs.declared.circle.Sense.{Sense}
use Rattle.osm_graph.specs.Graphs.{GraphValue}
use Rattle.osm_graph.specs.Joining.{connected}
use Rattle.osm_graph.specs.declared.fault.GraphError.{GraphError}
use Rattle.osm_host.specs.Moments.{Moment}
use Rattle.osm_report.specs.declared.fault.Fault.{Fault}
use Rattle.osm_report.specs.declared.fault.Fault.TheVariants.{Words, Task, Graph, Buffering, Memory}
use Rattle.osm_tasks.specs.Resolving.{resolved}
use Rattle.osm_tasks.specs.Tasks.{TaskValue}
use Rattle.osm_tasks.specs.declared.fault.TaskError.{TaskError}
use Rattle.osm_words.specs.Split.{split_words}
use Rattle.osm_words.specs.declared.list.TaskWords.{TaskWords}
use Rattle.osm_words.specs.declared.list.WordsError.{WordsError}
use Rattle.osm_run.specs.Asked.{HasCircle, HasNoCircle, IsRefusal, WasOutOfMemory, WasRefused, graph_asked, joined_asked, list_asked, tasks_asked}
use Rattle.osm_run.specs.Codes.{code_of}
use Rattle.osm_run.specs.Commands.{command_of_graph}
use Rattle.osm_run.specs.Outcome.{AfterRefusal, IsRun, IsUnchanged}
use Rattle.osm_run.specs.WordsRun.{DidRun, IsRefusedOrRun, IsWordsRun, RanOrHadNoMemory, WereRefused}
use Rattle.osm_run.specs.declared.status.Status.{Status}
use Rattle.osm_run.proofs.StayLemmas.{no_refusal}

-- whether a fault is a refusal of words, of a task, or of pipes and files
abbrev is_refusal : Fault → Bool
is_refusal (Words error) = true
is_refusal (Task error) = true
is_refusal (Graph error) = true
is_refusal fault = false

-- what words are refused with first is such a refusal
joined_refusal : (joined : Result GraphValue GraphError) (fault : Fault) → joined_asked joined ≡ Err fault →
    is_refusal fault ≡ true
joined_refusal (Err error) fault is = let same : Graph error ≡ fault = cc in ap is_refusal (sym same)
joined_refusal (Ok graph) fault is = cc

tasks_refusal : (tasks : Result (List TaskValue) TaskError) (fault : Fault) → tasks_asked tasks ≡ Err fault →
    is_refusal fault ≡ true
tasks_refusal (Err error) fault is = let same : Task error ≡ fault = cc in ap is_refusal (sym same)
tasks_refusal (Ok tasks) fault is = joined_refusal (connected tasks) fault is

list_refusal : (list : Result (List TaskWords) WordsError) (fault : Fault) → list_asked list ≡ Err fault →
    is_refusal fault ≡ true
list_refusal (Err error) fault is = let same : Words error ≡ fault = cc in ap is_refusal (sym same)
list_refusal (Ok list) fault is = tasks_refusal (resolved list) fault is

not_first : (words : List (List ℕ)) (fault : Fault) → graph_asked words ≡ Err fault → is_refusal fault ≡ false → ⊥
not_first words fault is other =
    let both : true ≡ false = sym (list_refusal (split_words words) fault is) ∙ other in cc

-- with status 2 or 3 words were refused
refused_by_code : (asked : Result GraphValue Fault) (before after : Moment) (status : Status) →
    IsRefusedOrRun asked before after status → (code_of status.fault ≡ 2) ⊎ (code_of status.fault ≡ 3) →
    AfterRefusal (IsRefusal asked) before after status
refused_by_code asked before after status (WereRefused r) code = r
refused_by_code asked before after status (DidRun graph is bare r) code =
    absurd (no_refusal (command_of_graph graph) before after status r code)

-- the fault of the first refusal, where there is one and memory was there
first_fault_is : (asked : Result GraphValue Fault) (refusal fault : Fault) → IsRefusal asked fault →
    asked ≡ Err refusal → (fault ≡ Memory → ⊥) → fault ≡ refusal
first_fault_is asked refusal fault (WasRefused first) is other =
    let same : Err fault ≡ Err refusal = sym first ∙ is in cc
first_fault_is asked refusal fault (HasCircle graph circle joined bare names) is other =
    absurd (let no : Ok graph ≡ Err refusal = sym joined ∙ is in cc)
first_fault_is asked refusal fault (WasOutOfMemory memory) is other = absurd (other memory)

refused_first_by : (asked : Result GraphValue Fault) (before after : Moment) (status : Status) →
    IsRefusedOrRun asked before after status → (refusal : Fault) → asked ≡ Err refusal →
    (status.fault ≡ Memory → ⊥) → status.fault ≡ refusal
refused_first_by asked before after status (WereRefused r) refusal is other =
    first_fault_is asked refusal status.fault r.fault is other
refused_first_by asked before after status (DidRun graph joined bare r) refusal is other =
    absurd (let no : Ok graph ≡ Err refusal = sym joined ∙ is in cc)

-- a graph that is asked for is one
one_graph : (asked : Result GraphValue Fault) (one other : GraphValue) → asked ≡ Ok one → asked ≡ Ok other → one ≡ other
one_graph asked one other is also = let same : Ok one ≡ Ok other = sym is ∙ also in cc

-- a fault of code 3 shows a bare circle of the graph
circle_of : (asked : Result GraphValue Fault) (graph : GraphValue) (fault : Fault) → IsRefusal asked fault →
    asked ≡ Ok graph → code_of fault ≡ 3 → (circle : List Sense) × IsBareCircle graph.pipes circle
circle_of asked graph fault (WasRefused first) is three = absurd (let no : Err fault ≡ Ok graph = sym first ∙ is in cc)
circle_of asked graph fault (HasCircle one circle joined bare names) is three =
    (circle, subst (λ (g : GraphValue). IsBareCircle g.pipes circle) (one_graph asked one graph joined is) bare)
circle_of asked graph fault (WasOutOfMemory memory) is three = absurd (omega (arith, three, ap code_of memory))

-- where the graph has a bare circle, words are refused for one, where memory was there
circle_by : (asked : Result GraphValue Fault) (before after : Moment) (status : Status) →
    IsRefusedOrRun asked before after status → (graph : GraphValue) → asked ≡ Ok graph →
    (status.fault ≡ Memory → ⊥) → (circle : List Sense) × IsBareCircle graph.pipes circle → code_of status.fault ≡ 3
circle_by asked before after status (DidRun one joined bare r) graph is other circle =
    absurd (bare circle.0
    (subst (λ (g : GraphValue). IsBareCircle g.pipes circle.0) (one_graph asked graph one is joined) circle.1))
circle_by asked before after status (WereRefused r) graph is other circle = by_refusal r.fault
  where
    by_refusal : IsRefusal asked status.fault → code_of status.fault ≡ 3
    by_refusal (WasRefused first) = absurd (let no : Err status.fault ≡ Ok graph = sym first ∙ is in cc)
    by_refusal (HasCircle one found joined bare names) = ap code_of names
    by_refusal (WasOutOfMemory memory) = absurd (other memory)

-- the circle of a fault is one of the graph
shown_by : (words : List (List ℕ)) (fault : Fault) (circle : List Sense) → IsRefusal (graph_asked words) fault →
    fault ≡ Buffering circle → (graph : GraphValue) × (graph_asked words ≡ Ok graph) × IsBareCircle graph.pipes circle
shown_by words fault circle (WasRefused first) is = absurd (not_first words fault first (ap is_refusal is))
shown_by words fault circle (HasCircle graph found joined bare names) is =
    let same : Buffering found ≡ Buffering circle = sym names ∙ is in
    let circle_is : found ≡ circle = cc in
    (graph, joined, subst (IsBareCircle graph.pipes) circle_is bare)
shown_by words fault circle (WasOutOfMemory memory) is =
    absurd (let no : Memory ≡ Buffering circle = sym memory ∙ is in cc)

-- words whose graph is run are refused only out of memory
memory_by : (asked : Result GraphValue Fault) (graph : GraphValue) (fault : Fault) → asked ≡ Ok graph →
    HasNoCircle graph → IsRefusal asked fault → fault ≡ Memory
memory_by asked graph fault is bare (WasRefused first) =
    absurd (let no : Err fault ≡ Ok graph = sym first ∙ is in cc)
memory_by asked graph fault is bare (HasCircle one circle joined ring names) =
    absurd (bare circle
    (subst (λ (g : GraphValue). IsBareCircle g.pipes circle) (one_graph asked one graph joined is) ring))
memory_by asked graph fault is bare (WasOutOfMemory memory) = memory

ran_or_memory : (asked : Result GraphValue Fault) (before after : Moment) (status : Status)
    (graph : GraphValue) → asked ≡ Ok graph → HasNoCircle graph → IsRefusedOrRun asked before after status →
    RanOrHadNoMemory graph before after status
ran_or_memory asked before after status graph is bare (WereRefused r) =
    inr (memory_by asked graph status.fault is bare r.fault, r.ends, r.same)
ran_or_memory asked before after status graph is bare (DidRun one joined other r) =
    inl (subst (λ g. IsRun (command_of_graph g) before after status) (one_graph asked one graph joined is) r)

module _ (words : List (List ℕ)) (before after : Moment) (status : Status)
    (run : IsWordsRun words before after status) where
  no_memory : status.code ≢ 6 → status.fault ≡ Memory → ⊥
  no_memory other memory = other (run.code ∙ ap code_of memory)

  pub refused_first : status.code ≢ 6 → (refusal : Fault) → graph_asked words ≡ Err refusal → status.fault ≡ refusal
  refused_first other refusal is =
      refused_first_by (graph_asked words) before after status run.run refusal is (no_memory other)

  circle_there : (graph : GraphValue) → graph_asked words ≡ Ok graph → status.code ≡ 3 →
      (circle : List Sense) × IsBareCircle graph.pipes circle
  circle_there graph is three =
      let code : code_of status.fault ≡ 3 = sym run.code ∙ three in
      circle_of (graph_asked words) graph status.fault
      (refused_by_code (graph_asked words) before after status run.run (inr code)).fault is code

  pub refused_circle : status.code ≢ 6 → (graph : GraphValue) → graph_asked words ≡ Ok graph →
      (status.code ≡ 3) ↔ ((circle : List Sense) × IsBareCircle graph.pipes circle)
  refused_circle other graph is = (
    circle_there graph is,
    λ circle. run.code
        ∙ circle_by (graph_asked words) before after status run.run graph is (no_memory other) circle,
  )

  pub refused_shown : (circle : List Sense) → status.fault ≡ Buffering circle →
      (graph : GraphValue) × (graph_asked words ≡ Ok graph) × IsBareCircle graph.pipes circle
  refused_shown circle is =
      shown_by words status.fault circle
      (refused_by_code (graph_asked words) before after status run.run (inr (ap code_of is))).fault is

  pub refused_same : (status.code ≡ 2) ⊎ (status.code ≡ 3) → (status.ends ≡ []) × IsUnchanged before after
  refused_same code =
      let refused = refused_by_code (graph_asked words) before after status run.run
      (elim code [ inl two ↦ inl (sym run.code ∙ two) | inr three ↦ inr (sym run.code ∙ three) ]) in
      (refused.ends, refused.same)

  pub words_run : (graph : GraphValue) → graph_asked words ≡ Ok graph → HasNoCircle graph →
      RanOrHadNoMemory graph before after status
  words_run graph is bare = ran_or_memory (graph_asked words) before after status graph is bare run.run
