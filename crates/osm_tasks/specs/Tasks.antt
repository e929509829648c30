-- A task as contracts see it, and what it keeps.
-- Here the names of its pipes are lists; the code finds each among the words of the task.
use Rattle.std.specs.Prelude.{ℕ, ◌≡◌, List, length, IsTrue, Option}
use Rattle.osm_tasks.specs.Kinds.{inputs_of, outputs_of, is_ranged}
use Rattle.osm_tasks.specs.declared.kind.TaskKind.{TaskKind}

-- a task: its kind, and the names of the pipes at its inputs and outputs, where they have names
pub record TaskValue : Type 0 where
  pub kind : TaskKind
  pub inputs : List (Option (List ℕ))
  pub outputs : List (Option (List ℕ))

-- the numbers of a task are in their ranges, and each port has its place among the names
pub record IsTask (t : TaskValue) : Type 0 where
  pub ranged : IsTrue (is_ranged t.kind)
  pub inputs : length t.inputs ≡ length (inputs_of t.kind)
  pub outputs : length t.outputs ≡ length (outputs_of t.kind)
