use Rattle.osm_pipe.proofs.RuleLemmas.{begins}
use Rattle.osm_pipe.proofs.channels.bounded_halves.Goals as goal

pub bounded_with-requires-clause-rule : goal.bounded_with-requires-clause-rule
bounded_with-requires-clause-rule c = begins
