use Rattle.osm_pipe.proofs.RuleLemmas.{splits}
use Rattle.osm_pipe.proofs.channels.part.Goals as goal

pub another-requires-clause-rule : goal.another-requires-clause-rule
another-requires-clause-rule g c = splits _ _ _ c.requires.new
