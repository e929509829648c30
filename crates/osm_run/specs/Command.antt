-- A command: the files of its tasks, and what the tasks mean by the bytes of those files.
-- Here all bytes of a file are there at once; the code moves messages from task to task.
use Rattle.std.specs.Prelude.{ℕ, List, Bool}
use Rattle.osm_entity.specs.Meaning.{Finish, Meaning}
use Rattle.osm_run.specs.Plan.{Plan}

-- a command: its plan, what a polygon file's bytes say, where pipes lead, and by what was read what all tasks mean and
-- how many messages pass its pipes
pub record Command : Type 0 where
  pub plan : Plan
  pub area : List ℕ → Finish
  pub leads : ℕ → ℕ → Bool
  pub meaning : (bytes : ℕ → List ℕ) → (clean : ℕ → Bool) → Meaning
  pub messages : (bytes : ℕ → List ℕ) → (clean : ℕ → Bool) → ℕ
