use Rattle.std.proofs.Common.{◌≡◌, ◌<◌, ℕ, false}
use Rattle.osm_net.specs.Networks.{IsSameNet, IsStuck, RanOn}
use Rattle.osm_net.proofs.net.Net.round.Given as goal

abbrev pub invariant-loop-task : goal.invariant-loop-task
invariant-loop-task g l =
    RanOn g.M.TaskMachine.of (λ m. g.M.TaskMachine.reads (g.M.TaskMachine.names m)) l.initial.self l.self
    l.initial.steps
    l.steps l.moved
    × (IsSameNet g.M.TaskMachine.of g.M.TaskMachine.names l.initial.self l.self
    × (l.moved ≡ false → (t : ℕ) → t < l.task → IsStuck g.M.TaskMachine.of l.self t))
