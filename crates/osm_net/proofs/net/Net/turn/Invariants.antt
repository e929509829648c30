use Rattle.std.proofs.Common.{◌≡◌, false}
use Rattle.osm_net.specs.Networks.{IsSameNet, RanOn}
use Rattle.osm_net.proofs.net.Net.turn.Given as goal

abbrev pub invariant-loop-turn : goal.invariant-loop-turn
invariant-loop-turn g l =
    RanOn g.M.TaskMachine.of (λ m. g.M.TaskMachine.reads (g.M.TaskMachine.names m)) l.initial.self l.self
    l.initial.steps
    l.steps l.moved
    × (IsSameNet g.M.TaskMachine.of g.M.TaskMachine.names l.initial.self l.self × (l.moved ≡ false → l._turn ≡ 0))
