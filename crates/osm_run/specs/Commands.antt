-- The command of a graph: the files of its tasks, and what its tasks mean together by what came of their files.
-- Here each stream is whole and each task is its rule; the code moves one message at a time from task to task.
use Rattle.std.specs.Prelude.{ℕ, List, [], ◌∷◌, map, get_or, length, Bool, false, All, if◌then◌else◌, Option, Some, None, Result, Ok, Err}
use Rattle.osm_area.specs.declared.area.Area.{Area}
use Rattle.osm_entity.specs.Meaning.{Finish, Meaning, Whole, Wrong}
use Rattle.osm_entity.specs.Streams.{Stream}
use Rattle.osm_entity.specs.Tasks.{TaskMeaning}
use Rattle.osm_entity.specs.declared.verdict.Cause.TheVariants.{BadPoly}
use Rattle.osm_entity.specs.declared.verdict.Spot.TheVariants.{Line}
use Rattle.osm_graph.specs.Graphs.{GraphValue, no_task}
use Rattle.osm_machine.specs.TaskMeanings.{kind_meaning, reads_area}
use Rattle.osm_net.specs.Meaning.{TaskCourse, messages_in, rules_of, streams_by, streams_into}
use Rattle.osm_poly.specs.Poly.{poly}
use Rattle.osm_tasks.specs.Tasks.{IsTask, TaskValue}
use Rattle.osm_tasks.specs.declared.kind.TaskKind.{TaskKind}
use Rattle.osm_tasks.specs.declared.kind.TaskKind.TheVariants.{ReadPbf, ReadOpl, ReadOplChange, WritePbf, WriteOpl, WriteOplChange, WriteSummary, BoundingPolygon}
use Rattle.osm_run.specs.Plan.{File, Plan, Polygon, Sink, Source}
use Rattle.osm_run.specs.Command.{Command}

-- the files that a kind of task has open while it runs: what a reader reads, or what a writer writes
abbrev pub kind_files : TaskKind → List File
kind_files (ReadPbf file) = Source file ∷ []
kind_files (ReadOpl file) = Source file ∷ []
kind_files (ReadOplChange file) = Source file ∷ []
kind_files (WritePbf file batchlimit usedense omitmetadata granularity) = Sink file ∷ []
kind_files (WriteOpl file) = Sink file ∷ []
kind_files (WriteOplChange file) = Sink file ∷ []
kind_files (WriteSummary file) = Sink file ∷ []
kind_files kind = []

-- all files of a kind of task: the polygon file of an area, which is read before the tasks run, or those above
abbrev pub all_kind_files : TaskKind → List File
all_kind_files (BoundingPolygon file options) = Polygon file ∷ []
all_kind_files kind = kind_files kind

-- the plan of tasks by the files of each kind
abbrev pub plan_by : (TaskKind → List File) → List TaskValue → Plan
plan_by files tasks = map (λ (task : TaskValue). files task.kind) tasks

-- the plan of the files that some tasks have open while they run
abbrev pub plan_of : List TaskValue → Plan
plan_of tasks = plan_by kind_files tasks

-- the kind of the task of a number
abbrev pub kind_at : List TaskValue → ℕ → TaskKind
kind_at tasks t = (get_or tasks t no_task).kind

-- the numbers of each task are in their ranges, and each of its ports has its place
abbrev pub AreTasksKept : List TaskValue → Type 0
AreTasksKept tasks = All IsTask tasks

-- the areas of tasks by their numbers, of those that have one of a file
abbrev pub Areas : Type 0
Areas = ℕ → Option Area

-- the areas of a list, by their places
abbrev pub area_at : List (Option Area) → Areas
area_at areas t = get_or areas t None

-- what the task of a number means alone
abbrev pub task_meant : List TaskValue → Areas → ℕ → TaskMeaning
task_meant tasks areas t = kind_meaning (kind_at tasks t) (areas t)

-- each task, with what came of its source
abbrev pub courses_of : List TaskValue → Areas → (bytes : ℕ → List ℕ) → (clean : ℕ → Bool) → ℕ → TaskCourse
courses_of tasks areas bytes clean t = record { task = task_meant tasks areas t; bytes = bytes t; came = clean t }

-- the streams of the pipes of a graph, by what came of its sources
abbrev pub streams_of : GraphValue → Areas → (bytes : ℕ → List ℕ) → (clean : ℕ → Bool) → ℕ → Stream
streams_of g areas bytes clean = streams_by g.pipes (rules_of (courses_of g.tasks areas bytes clean)) (length g.tasks)

-- the streams at the inputs of the task of a number
abbrev pub inputs_at : GraphValue → Areas → (bytes : ℕ → List ℕ) → (clean : ℕ → Bool) → ℕ → ℕ → Stream
inputs_at g areas bytes clean t = streams_into g.pipes (streams_of g areas bytes clean) t

-- what the tasks of a graph mean: how each ends, and the bytes of each writer, by the streams at its inputs
abbrev pub graph_meaning : GraphValue → Areas → (bytes : ℕ → List ℕ) → (clean : ℕ → Bool) → Meaning
graph_meaning g areas bytes clean = record {
  finish = λ t. (task_meant g.tasks areas t).finish (bytes t) (clean t) (inputs_at g areas bytes clean t);
  bytes = λ t. (task_meant g.tasks areas t).text (inputs_at g areas bytes clean t);
}

-- what was read of a polygon file: it is whole, or wrong at a line
abbrev pub finish_poly : Result Area ℕ → Finish
finish_poly (Ok area) = Whole
finish_poly (Err line) = Wrong BadPoly (Line line)

-- the area of a polygon file, where it isn't wrong
abbrev pub area_in : Result Area ℕ → Option Area
area_in (Ok area) = Some area
area_in (Err line) = None

-- the areas of tasks, each by the bytes of its polygon file
abbrev pub areas_said : List TaskValue → (bytes : ℕ → List ℕ) → Areas
areas_said tasks bytes t = if reads_area (kind_at tasks t) then area_in (poly (bytes t)) else None

-- the command of a graph with these files, whose tasks have these areas by what was read; no pipe leads through a
-- scratch store
abbrev pub command_by : GraphValue → Plan → ((ℕ → List ℕ) → Areas) → Command
command_by g plan areas = record {
  plan = plan;
  area = λ bytes. finish_poly (poly bytes);
  leads = λ task later. false;
  meaning = λ bytes clean. graph_meaning g (areas bytes) bytes clean;
  messages = λ bytes clean. messages_in g.pipes (streams_of g (areas bytes) bytes clean);
}

-- the command of a graph whose polygon files were read before, and have these areas
abbrev pub command_with : GraphValue → Areas → Command
command_with g areas = command_by g (plan_of g.tasks) (λ bytes. areas)

-- the command of a graph
abbrev pub command_of_graph : GraphValue → Command
command_of_graph g = command_by g (plan_by all_kind_files g.tasks) (areas_said g.tasks)
