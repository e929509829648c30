-- The ports of the tasks of a command, in the order in which they are joined.
-- Here the ports of a side are made from the names there; the code meets them task by task.
use Rattle.std.specs.Prelude.{ℕ, ◌+◌, List, [], ◌∷◌, ◌++◌, get_or, Bool, true, false, Option, unwrap_or}
use Rattle.osm_entity.specs.declared.kind.Flow.{Flow}
use Rattle.osm_entity.specs.declared.kind.Flow.TheVariants.{Entities}
use Rattle.osm_tasks.specs.Catalogue.{task_row}
use Rattle.osm_tasks.specs.Kinds.{task_of, inputs_of}
use Rattle.osm_tasks.specs.Tasks.{TaskValue}
use Rattle.osm_tasks.specs.declared.kind.TaskKind.{TaskKind}
use Rattle.osm_tasks.specs.declared.kind.TaskKind.TheVariants.{Buffer, Spool as SpoolTask}
use Rattle.osm_graph.specs.declared.pipe.Store.{Store}
use Rattle.osm_graph.specs.declared.pipe.Store.TheVariants.{Bounded, Spool}

-- a port: its task, its number there, whether it is an output, its stream, the name of its pipe where it has one, and
-- what a pipe into its task holds
pub record PortValue : Type 0 where
  pub task : ℕ
  pub port : ℕ
  pub gives : Bool
  pub flow : Flow
  pub name : Option (List ℕ)
  pub store : Store

-- what a pipe into a task holds: before a buffer its capacity, before a spool all that comes, before any other 64
abbrev pub store_before : TaskKind → Store
store_before (Buffer flow capacity) = Bounded capacity
store_before (SpoolTask flow) = Spool
store_before kind = Bounded 64

-- the stream of a kind at a port: that of its row at an input, the one that it gives at each output
abbrev pub flow_at : TaskKind → (gives : Bool) → (port : ℕ) → Flow
flow_at kind true port = unwrap_or (task_row (task_of kind)).output Entities
flow_at kind false port = get_or (inputs_of kind) port Entities

-- the ports of one side of a task, one for each of these names, of which the first has this number
abbrev pub side_ports : (task : ℕ) → TaskKind → (gives : Bool) → (port : ℕ) → List (Option (List ℕ)) → List PortValue
side_ports task kind gives port [] = []
side_ports task kind gives port (name ∷ names) = record {
  task = task;
  port = port;
  gives = gives;
  flow = flow_at kind gives port;
  name = name;
  store = store_before kind;
} ∷ side_ports task kind gives (port + 1) names

-- the ports of the task of this number: its inputs, then its outputs
abbrev pub ports_of_task : ℕ → TaskValue → List PortValue
ports_of_task n task = side_ports n task.kind false 0 task.inputs ++ side_ports n task.kind true 0 task.outputs

-- the ports of tasks, of which the first has this number
abbrev pub ports_from : ℕ → List TaskValue → List PortValue
ports_from n [] = []
ports_from n (task ∷ tasks) = ports_of_task n task ++ ports_from (n + 1) tasks

-- the ports of a command, task by task
abbrev pub ports_of : List TaskValue → List PortValue
ports_of tasks = ports_from 0 tasks
