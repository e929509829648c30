use Rattle.osm_run.proofs.StayLemmas.{no_refusal}
use Rattle.osm_run.proofs.laws.runs_are_no_refusals.Goals as goal

pub returns : goal.returns
returns c = no_refusal
