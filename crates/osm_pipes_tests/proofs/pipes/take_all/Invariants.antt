use Rattle.std.proofs.Common.{◌≡◌, false}
use Rattle.osm_entity.specs.Ports.{has_end}
use Rattle.osm_pipes_tests.proofs.pipes.take_all.Given as goal

abbrev pub invariant-loop-id : goal.invariant-loop-id
invariant-loop-id g l = (l.taker.pipe ≡ l.initial.taker.pipe) × (has_end l.taker.list ≡ false)
