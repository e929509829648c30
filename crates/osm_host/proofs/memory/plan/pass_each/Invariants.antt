use Rattle.std.proofs.Common.{◌≡◌, take, drop, map, ◌++◌}
use Rattle.osm_host.specs.Plans.{nearer}
use Rattle.osm_host.proofs.memory.plan.pass_each.Given as goal

abbrev pub invariant-loop-fail : goal.invariant-loop-fail
invariant-loop-fail l =
    l.fails ≡ map (nearer l.op l.name) (take l.fail-index l.initial.fails) ++ drop l.fail-index l.initial.fails
