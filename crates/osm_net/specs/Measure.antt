-- How much a network can still do: a number that falls with each move.
-- Here it is a sum over tasks and pipes; no code computes it.
use Rattle.std.specs.Prelude.{ℕ, zero, suc, ◌+◌, ◌*◌, ◌-◌, List, length}
use Rattle.osm_entity.specs.declared.stream.Message.{Message}
use Rattle.osm_graph.specs.Pipes.{pipe_of}
use Rattle.osm_graph.specs.declared.pipe.Pipe.{Pipe}
use Rattle.osm_net.specs.Meaning.{sum_below}

-- what a step of a task weighs that has this many tasks from itself on, where no task has more outputs than these
abbrev pub step_weight : (outputs : ℕ) → (tasks : ℕ) → ℕ
step_weight outputs zero = 1
step_weight outputs (suc n) = (outputs + 2) * step_weight outputs n

-- what a network can still do: what each task has left to do with no input, and what is queued before it, each by the
-- weight of its task's steps
abbrev pub net_weight : (outputs tasks : ℕ) → List Pipe → (left : ℕ → ℕ) → (queue : ℕ → List Message) → ℕ
net_weight outputs tasks pipes left queue =
    sum_below (λ t. left t * step_weight outputs (tasks - t)) tasks
    + sum_below (λ p. length (queue p) * ((outputs + 1) * step_weight outputs (tasks - (pipe_of pipes p).to)))
    (length pipes)
