use Rattle.osm_select.proofs.RoundLemmas.{rounds_are_least}
use Rattle.osm_select.proofs.laws.relations_are_least.Goals as goal

pub returns : goal.returns
returns c = rounds_are_least
