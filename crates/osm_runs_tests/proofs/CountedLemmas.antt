-- The run of a reader, a buffer of one message and a dropping writer over one node: its messages, pulls and steps.
use Rattle.std.proofs.Common.{◌≡◌, ℕ, ◌≤◌, ◌+◌, ◌*◌, inl, inr, List, [], ◌∷◌, ◌++◌, length, take, Bool, true, false, Option, Some, None, Ok, Err, refl, sym, ap, subst, ◌∙◌, append-nil, arith}
use Rattle.std.specs.Prelude.{IsSomeAnd, codes}
use Rattle.std.specs.FinMap as finite
use Rattle.std.specs.List.{AllByRecursion}
use Rattle.std.specs.Str.{chars, is_utf8}
use lib.Utf8.{encode}
use Rattle.osm_entity.specs.Readings.{stream_read}
use Rattle.osm_entity.specs.declared.kind.Flow.TheVariants.{Entities}
use Rattle.osm_graph.specs.Graphs.{GraphValue}
use Rattle.osm_graph.specs.declared.pipe.Store.TheVariants.{Bounded}
use Rattle.osm_host.specs.Contents.{Files}
use Rattle.osm_host.specs.Moments.{Moment}
use Rattle.osm_machine.specs.ReadingFormats.{OplFile, limited_reading}
use Rattle.osm_machine.specs.TaskMeanings.{reading_limit}
use Rattle.osm_opl_line.specs.Line.{opl_line}
use Rattle.osm_opl_line.specs.Reading.{opl_reading}
use Rattle.osm_report.specs.declared.fault.Fault.{Fault}
use Rattle.osm_report.specs.declared.fault.Fault.TheVariants.{Buffering, Clean, Memory}
use Rattle.osm_run.specs.Asked.{HasCircle, IsRefusal, WasOutOfMemory, WasRefused, graph_asked}
use Rattle.osm_run.specs.Codes.{code_of}
use Rattle.osm_run.specs.Command.{Command}
use Rattle.osm_run.specs.Commands.{command_of_graph}
use Rattle.osm_run.specs.Course.{Course, entries, source_limit}
use Rattle.osm_run.specs.HowFar.{AfterStop, AfterTasks, HowFar, OutOfMemory, Ran, Stopped}
use Rattle.osm_run.specs.OnHost.{GivesFile}
use Rattle.osm_run.specs.Plan.{Source, openings}
use Rattle.osm_run.specs.Went.{messages_by, most_pulls_of}
use Rattle.osm_run.specs.WordsRun.{DidRun, IsCountedRun, IsCountedWordsRun, IsRefusedOrRun, TakesSteps, TakesStepsOf, WereRefused}
use Rattle.osm_run.specs.declared.status.Status.{Status}
use Rattle.osm_run.proofs.CleanLemmas.{clean_tasks, ends_came}
use Rattle.osm_run.proofs.FirstFaultLemmas.{IsMet, is_met, opening_met}
use Rattle.osm_tasks.specs.declared.kind.TaskKind.TheVariants.{Buffer, ReadOpl, WriteNull}

-- the words
abbrev pub buffer_words : List (List ℕ)
buffer_words =
    codes "--read-opl" ∷ codes "a" ∷ codes "--buffer" ∷ codes "1" ∷ codes "--write-null" ∷ []

-- the file
abbrev pub one_node : List ℕ
one_node = codes "n1 x0 y0" ++ 10 ∷ []

-- the graph of the words
abbrev buffer_graph : GraphValue
buffer_graph = record {
  tasks = record { kind = ReadOpl (codes "a"); inputs = []; outputs = None ∷ [] }
      ∷ record { kind = Buffer Entities 1; inputs = None ∷ []; outputs = None ∷ [] }
      ∷ record { kind = WriteNull; inputs = None ∷ []; outputs = [] } ∷ [];
  pipes = record { from = 0; from_port = 0; to = 1; to_port = 0; flow = Entities; store = Bounded 1 }
      ∷ record { from = 1; from_port = 0; to = 2; to_port = 0; flow = Entities; store = Bounded 64 } ∷ [];
}

-- its command
abbrev buffer_command : Command
buffer_command = command_of_graph buffer_graph

graph_is : graph_asked buffer_words ≡ Ok buffer_graph
graph_is = refl

-- how many messages pass each pipe, by what came of the file
abbrev each_pipe : List ℕ → Bool → ℕ
each_pipe bytes came =
    length (stream_read (limited_reading (OplFile Entities) reading_limit (take source_limit bytes) came)).items + 1

-- a node and its end pass each pipe
two_each : each_pipe one_node true ≡ 2
unfolding opl_reading opl_line is_utf8 chars encode
two_each = refl

-- four messages pass the pipes
messages_are : (c : Course) → c.given 0 ≡ one_node → c.clean 0 ≡ true → messages_by buffer_command c ≡ 4
messages_are c given clean =
    let by_pipe : messages_by buffer_command c
    ≡ (0 + each_pipe (c.given 0) (c.clean 0)) + each_pipe (c.given 0) (c.clean 0) = refl in
    let each : each_pipe (c.given 0) (c.clean 0) ≡ 2 =
    ap (λ bytes. each_pipe bytes (c.clean 0)) given ∙ ap (each_pipe one_node) clean ∙ two_each in
    omega (arith, by_pipe, each)

-- nine bytes are pulled ten times at most
pulls_are : (c : Course) → c.given 0 ≡ one_node → most_pulls_of (entries buffer_command.plan c) ≡ 10
pulls_are c given =
    let all : most_pulls_of (entries buffer_command.plan c) ≡ 0 + (length (c.given 0) + 1) = refl in
    let nine : length (c.given 0) ≡ 9 = ap length given in
    omega (arith, all, nine)

-- of a file whose end came, all came
given_is : (files : Option Files) (c : Course) →
    IsSomeAnd files (λ files. finite.get files (codes "a") ≡ Some one_node) →
    GivesFile files c (0, Source (codes "a")) → c.clean 0 ≡ true → c.given 0 ≡ one_node
given_is None c there gives clean = absurd there
given_is (Some files) c there (inl rest) clean = absurd (let no : true ≡ false = sym clean ∙ rest.clean in cc)
given_is (Some files) c there (inr read) clean =
    let whole : c.given 0 ++ read.rest ≡ one_node = (let both = sym read.there ∙ there in cc) in
    sym (append-nil (c.given 0)) ∙ ap (λ rest. c.given 0 ++ rest) (sym (read.whole clean)) ∙ whole

is_clean : (fault : Fault) → code_of fault ≡ 0 → fault ≡ Clean
is_clean Clean is = refl
is_clean _ is = cc

-- words that were refused have no clean run
unrefused : (fault : Fault) → fault ≡ Clean → IsRefusal (graph_asked buffer_words) fault → ⊥
unrefused fault clean (WasRefused is) =
    let no : Ok buffer_graph ≡ Err fault = sym graph_is ∙ is in cc
unrefused fault clean (HasCircle graph circle joined bare is) =
    let no : Clean ≡ Buffering circle = sym clean ∙ is in cc
unrefused fault clean (WasOutOfMemory is) = let no : Clean ≡ Memory = sym clean ∙ is in cc

-- a run that stopped has a fault
stops_by_fault : (k : Command) (c : Course) (before after : Moment) (status : Status) → status.fault ≡ Clean →
    AfterStop k c before after status → ⊥
stops_by_fault k c before after status clean stop =
    let met : AllByRecursion IsMet (status.fault ∷ stop.fault.0) =
    subst (AllByRecursion IsMet) stop.fault.1 (opening_met k c stop.last) in
    let no : false ≡ true = sym (ap is_met clean) ∙ met.0 in cc

-- a clean run takes two steps for each message, and those of its pulls
steps_taken : (k : Command) (c : Course) (before after : Moment) (status : Status) (steps : ℕ) →
    status.fault ≡ Clean → (how_far : HowFar k c before after status) →
    TakesSteps k c status.ends how_far steps →
    (2 * messages_by k c ≤ steps) × (steps ≤ 2 * messages_by k c + most_pulls_of status.ends)
steps_taken k c before after status steps clean (Stopped stop) taken =
    absurd (stops_by_fault k c before after status clean stop)
steps_taken k c before after status steps clean (Ran tasks) taken = taken
steps_taken k c before after status steps clean (OutOfMemory memory) taken =
    absurd (let no : Clean ≡ Memory = sym clean ∙ memory.fault in cc)

-- a clean run of the command takes 8 to 18 steps
command_takes : (before after : Moment) (status : Status) (steps : ℕ) →
    IsCountedRun buffer_command before after status steps →
    IsSomeAnd before.files (λ files. finite.get files (codes "a") ≡ Some one_node) → status.fault ≡ Clean →
    (8 ≤ steps) × (steps ≤ 18)
command_takes before after status steps counted there fault =
    let c : Course = counted.run.course in
    let tasks : AfterTasks buffer_command c before after status =
    clean_tasks buffer_command before after status counted.run fault in
    let clean : c.clean 0 ≡ true = (ends_came buffer_command before after status counted.run fault).0 in
    let gives : AllByRecursion (GivesFile before.files c) (openings buffer_command.plan) =
    subst (AllByRecursion (GivesFile before.files c)) tasks.opened counted.run.is_course.gives in
    let given : c.given 0 ≡ one_node = given_is before.files c there gives.0 clean in
    let taken = steps_taken buffer_command c before after status steps fault counted.run.how_far counted.counted in
    let messages : messages_by buffer_command c ≡ 4 = messages_are c given clean in
    let pulls : most_pulls_of status.ends ≡ 10 = ap most_pulls_of tasks.ends ∙ pulls_are c given in
    (omega (arith, taken.0, messages), omega (arith, taken.1, messages, pulls))

-- a run of the words with status 0 takes 8 to 18 steps
pub words_take : (before after : Moment) (status : Status) (steps : ℕ) →
    IsCountedWordsRun buffer_words before after status steps →
    IsSomeAnd before.files (λ files. finite.get files (codes "a") ≡ Some one_node) → status.code ≡ 0 →
    (8 ≤ steps) × (steps ≤ 18)
words_take before after status steps ran there code =
    by_run ran.run.run ran.counted
  where
    clean : status.fault ≡ Clean
    clean = is_clean status.fault (sym ran.run.code ∙ code)

    by_run : (run : IsRefusedOrRun (graph_asked buffer_words) before after status) → TakesStepsOf run steps →
        (8 ≤ steps) × (steps ≤ 18)
    by_run (WereRefused refused) counted = absurd (unrefused status.fault clean refused.fault)
    by_run (DidRun graph joined bare run) counted =
        let same : graph ≡ buffer_graph = (let both : Ok graph ≡ Ok buffer_graph = sym joined ∙ graph_is in cc) in
        command_takes before after status steps
        (subst (λ g. IsCountedRun (command_of_graph g) before after status steps) same
        (record { run = run; counted = counted }))
        there clean
