use Rattle.osm_run.proofs.CompleteLemmas.{complete_run}
use Rattle.osm_run.proofs.laws.calm_runs_are_complete.Goals as goal

pub returns : goal.returns
returns c = complete_run
