-- A graph as contracts see it, and what it keeps.
-- Here a port is a number below how many its task has; the code has a name for each.
use Rattle.std.specs.Prelude.{ℕ, ◌≤◌, ◌<◌, ◌≡◌, List, [], length, get_or, Bool, true, false, IsTrue}
use Rattle.osm_tasks.specs.Kinds.{is_within}
use Rattle.osm_tasks.specs.Tasks.{TaskValue}
use Rattle.osm_tasks.specs.declared.kind.TaskKind.TheVariants.{ReadEmpty}
use Rattle.osm_graph.specs.Files.{clashes}
use Rattle.osm_graph.specs.Pipes.{IsWholeGraph, pipe_of}
use Rattle.osm_graph.specs.Ports.{flow_at}
use Rattle.osm_graph.specs.declared.pipe.Pipe.{Pipe}
use Rattle.osm_graph.specs.declared.pipe.Store.{Store}
use Rattle.osm_graph.specs.declared.pipe.Store.TheVariants.{Bounded, Spool}

-- a graph: the tasks of a command, and its pipes by their numbers
pub record GraphValue : Type 0 where
  pub tasks : List TaskValue
  pub pipes : List Pipe

-- what stands for a task where there is none: it has no port
abbrev pub no_task : TaskValue
no_task = record { kind = ReadEmpty; inputs = []; outputs = [] }

-- how many inputs the task of a number has
abbrev pub count_inputs : List TaskValue → ℕ → ℕ
count_inputs tasks t = length (get_or tasks t no_task).inputs

-- how many outputs the task of a number has
abbrev pub count_outputs : List TaskValue → ℕ → ℕ
count_outputs tasks t = length (get_or tasks t no_task).outputs

-- the most pipes of a graph
abbrev pub most_pipes : ℕ
most_pipes = 128

-- the most tasks of a graph: two for each pipe, since each task has a port
abbrev pub most_joined_tasks : ℕ
most_joined_tasks = 256

-- a pipe is a spool, or holds 1 to 65,536 messages
abbrev pub holds_messages : Store → Bool
holds_messages (Bounded capacity) = is_within 1 65536 capacity
holds_messages Spool = true

-- each port of each task has exactly one pipe, and pipes lead to later tasks; there are at most 128 pipes and 256 tasks;
-- each pipe can hold a message, and has the stream of the output and of the input; no task writes the file of another
pub record IsGraph (g : GraphValue) : Type 0 where
  pub whole : IsWholeGraph (length g.tasks) (count_inputs g.tasks) (count_outputs g.tasks) g.pipes
  pub few_pipes : length g.pipes ≤ most_pipes
  pub few_tasks : length g.tasks ≤ most_joined_tasks
  pub stored : (p : ℕ) → p < length g.pipes → IsTrue (holds_messages (pipe_of g.pipes p).store)
  pub given : (p : ℕ) → p < length g.pipes → (pipe_of g.pipes p).flow
      ≡ flow_at (get_or g.tasks (pipe_of g.pipes p).from no_task).kind true (pipe_of g.pipes p).from_port
  pub taken : (p : ℕ) → p < length g.pipes → (pipe_of g.pipes p).flow
      ≡ flow_at (get_or g.tasks (pipe_of g.pipes p).to no_task).kind false (pipe_of g.pipes p).to_port
  pub apart : (i j : ℕ) → i < j → j < length g.tasks →
      clashes (get_or g.tasks i no_task).kind (get_or g.tasks j no_task).kind ≡ false
