use Rattle.osm_net.specs.Networks.{IsSameNet, WentOnCounted, left_in_net}
use Rattle.osm_net.proofs.net.Net.run_alone.Given as goal

abbrev pub invariant-loop-moved : goal.invariant-loop-moved
invariant-loop-moved g l =
    WentOnCounted g.M.TaskMachine.of (λ m. g.M.TaskMachine.reads (g.M.TaskMachine.names m)) l.initial.self l.self
    l.initial.steps l.steps
    × IsSameNet g.M.TaskMachine.of g.M.TaskMachine.names l.initial.self l.self

abbrev pub decreases-loop-moved : goal.decreases-loop-moved
decreases-loop-moved g l = left_in_net g.M.TaskMachine.of l.self
