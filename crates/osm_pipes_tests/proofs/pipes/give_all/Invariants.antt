use Rattle.std.proofs.Common.{◌≡◌}
use Rattle.osm_pipes_tests.proofs.pipes.give_all.Given as goal

abbrev pub invariant-loop-id : goal.invariant-loop-id
invariant-loop-id g l = l.giver.pipe ≡ l.initial.giver.pipe
