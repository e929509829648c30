use Rattle.osm_run.proofs.RefusalLemmas.{words_run}
use Rattle.osm_run.proofs.words_laws.words_run_their_command.Goals as goal

pub returns : goal.returns
returns c = words_run
