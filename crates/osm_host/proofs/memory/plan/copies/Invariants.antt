use Rattle.std.proofs.Common.{◌≡◌, take}
use Rattle.osm_host.proofs.memory.plan.copies.Given as goal

abbrev pub invariant-loop-fail : goal.invariant-loop-fail
invariant-loop-fail l = l.copies.items ≡ take l.fail-index l.fails
