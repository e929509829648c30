-- Tables of the pipes at the ports of tasks.
-- Here a table agrees with a search; the code searches once, and then looks up.
use Rattle.std.specs.Prelude.{◌≡◌, ℕ, ◌<◌, ◌≤◌, List, [], length, get_or, Option, slice_get}
use Rattle.osm_graph.specs.Pipes.{pipe_into, pipe_out}
use Rattle.osm_graph.specs.declared.pipe.Pipe.{Pipe}

-- the numbers of the pipes at a task's ports, by port
pub record TaskPipesValue : Type 0 where
  pub inputs : List ℕ
  pub outputs : List ℕ

-- the table of a task without ports
abbrev pub no_task_pipes : TaskPipesValue
no_task_pipes = record { inputs = []; outputs = [] }

-- a table by port agrees with a search at each of its ports, and at the next, where there is nothing
abbrev pub AgreesWith : (ℕ → Option ℕ) → List ℕ → Type 0
AgreesWith find table = (port : ℕ) → port ≤ length table → slice_get table port ≡ find port

-- the tables of the pipes at a task's inputs and outputs
pub record AreTaskPipes (pipes : List Pipe) (task : ℕ) (tables : TaskPipesValue) : Type 0 where
  pub into : AgreesWith (pipe_into pipes task) tables.inputs
  pub out : AgreesWith (pipe_out pipes task) tables.outputs

-- there are tables for each of the first tasks
pub record AreTables (pipes : List Pipe) (tasks : ℕ) (tables : List TaskPipesValue) : Type 0 where
  pub count : length tables ≡ tasks
  pub each : (t : ℕ) → t < tasks → AreTaskPipes pipes t (get_or tables t no_task_pipes)
