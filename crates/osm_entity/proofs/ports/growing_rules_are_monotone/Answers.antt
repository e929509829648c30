use Rattle.osm_entity.proofs.GrowthLemmas.{monotone}
use Rattle.osm_entity.proofs.ports.growing_rules_are_monotone.Goals as goal

pub returns : goal.returns
returns c = monotone
