-- The run of words: they were refused, or the command of their graph ran; and the number of its steps.
-- Here the whole run is one relation between two moments of the host; the code goes through it call by call.
use Rattle.std.specs.Prelude.{ℕ, ◌≡◌, ◌≤◌, ◌+◌, ◌*◌, ◌⊎◌, List, [], Result, Ok}
use Rattle.osm_graph.specs.Graphs.{GraphValue}
use Rattle.osm_host.specs.Moments.{Moment}
use Rattle.osm_report.specs.Lines.{fault_text}
use Rattle.osm_report.specs.declared.fault.Fault.{Fault}
use Rattle.osm_report.specs.declared.fault.Fault.TheVariants.{Memory}
use Rattle.osm_tasks.specs.Tasks.{TaskValue}
use Rattle.osm_run.specs.Asked.{HasNoCircle, IsRefusal, graph_asked}
use Rattle.osm_run.specs.Codes.{code_of}
use Rattle.osm_run.specs.Command.{Command}
use Rattle.osm_run.specs.Commands.{command_of_graph}
use Rattle.osm_run.specs.Course.{Course}
use Rattle.osm_run.specs.HowFar.{HowFar, Stopped, Ran, OutOfMemory}
use Rattle.osm_run.specs.Outcome.{AfterRefusal, IsRun, IsSaid, IsUnchanged}
use Rattle.osm_run.specs.Went.{messages_by, most_pulls_of}
use Rattle.osm_run.specs.declared.status.SourceEnd.{SourceEnd}
use Rattle.osm_run.specs.declared.status.Status.{Status}

-- a run takes two steps for each message of its pipes, and at most one for each pull besides; out of memory it may take
-- fewer, and where no task ran it takes none
abbrev pub TakesSteps : (k : Command) → (c : Course) → List SourceEnd → {before after : Moment} → {status : Status} →
    HowFar k c before after status → ℕ → Type 0
TakesSteps k c ends (Stopped stop) steps = steps ≡ 0
TakesSteps k c ends (Ran tasks) steps =
    (2 * messages_by k c ≤ steps) × (steps ≤ 2 * messages_by k c + most_pulls_of ends)
TakesSteps k c ends (OutOfMemory memory) steps = steps ≤ 2 * messages_by k c + most_pulls_of ends

-- a command ran, and took this many steps
pub record IsCountedRun (k : Command) (before after : Moment) (status : Status) (steps : ℕ) : Type 0 where
  pub run : IsRun k before after status
  pub counted : TakesSteps k run.course status.ends run.how_far steps

-- no task of these ran: that is the run of the whole command
abbrev pub RanNoTask : List TaskValue → Moment → Moment → Status → Type 0
RanNoTask tasks before after status = (g : GraphValue) → g.tasks ≡ tasks →
    IsCountedRun (command_of_graph g) before after status 0

-- words that ask for this, or for no graph, were refused, or their graph's command ran
pub data IsRefusedOrRun (asked : Result GraphValue Fault) (before after : Moment) (status : Status) : Type 0 where
  WereRefused : AfterRefusal (IsRefusal asked) before after status → IsRefusedOrRun asked before after status
  DidRun : (graph : GraphValue) → asked ≡ Ok graph → HasNoCircle graph →
      IsRun (command_of_graph graph) before after status → IsRefusedOrRun asked before after status

-- a refusal takes no step, and a run takes those of its command
abbrev pub TakesStepsOf : {asked : Result GraphValue Fault} → {before after : Moment} → {status : Status} →
    IsRefusedOrRun asked before after status → ℕ → Type 0
TakesStepsOf (WereRefused refused) steps = steps ≡ 0
TakesStepsOf {status = status} (DidRun graph joined bare run) steps =
    TakesSteps (command_of_graph graph) run.course status.ends run.how_far steps

-- words that ask for this were refused or ran, in this many steps
pub record IsRefusedOrCounted (asked : Result GraphValue Fault) (before after : Moment) (status : Status)
    (steps : ℕ) : Type 0 where
  pub run : IsRefusedOrRun asked before after status
  pub counted : TakesStepsOf run steps

-- what a run of words promises: they were refused or ran, what is said of the fault, and the exit status of the fault
pub record IsWordsRun (words : List (List ℕ)) (before after : Moment) (status : Status) : Type 0 where
  pub said : IsSaid (fault_text status.fault) before after
  pub run : IsRefusedOrRun (graph_asked words) before after status
  pub code : status.code ≡ code_of status.fault

-- what a run of words on one thread promises also of its steps
pub record IsCountedWordsRun (words : List (List ℕ)) (before after : Moment) (status : Status) (steps : ℕ) : Type 0
  where
    pub run : IsWordsRun words before after status
    pub counted : TakesStepsOf run.run steps

-- the command of a graph ran, or memory ran out before it and nothing changed
abbrev pub RanOrHadNoMemory : GraphValue → Moment → Moment → Status → Type 0
RanOrHadNoMemory graph before after status = IsRun (command_of_graph graph) before after status
    ⊎ ((status.fault ≡ Memory) × (status.ends ≡ []) × IsUnchanged before after)
