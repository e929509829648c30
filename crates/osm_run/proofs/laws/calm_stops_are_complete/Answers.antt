use Rattle.osm_run.proofs.CalmStopLemmas.{complete_stop}
use Rattle.osm_run.proofs.laws.calm_stops_are_complete.Goals as goal

pub returns : goal.returns
returns c = complete_stop
