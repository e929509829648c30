use Rattle.std.proofs.Common.{◌≡◌, length}
use Rattle.osm_net.specs.Networks.{StandsForSome}
use Rattle.osm_nets_tests.proofs.stepping.step_on.Given as goal

abbrev pub invariant-loop-move : goal.invariant-loop-move
invariant-loop-move g l = (length l.net.machines ≡ 3) × StandsForSome g.M.TaskMachine.of l.net
