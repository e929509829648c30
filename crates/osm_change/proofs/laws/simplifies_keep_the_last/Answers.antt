use Rattle.osm_change.proofs.LatestLemmas.{keeps_the_last}
use Rattle.osm_change.proofs.laws.simplifies_keep_the_last.Goals as goal

pub returns : goal.returns
returns c items key = keeps_the_last items key
