use Rattle.osm_run.proofs.LawfulGraphLemmas.{graph_lawful}
use Rattle.osm_run.proofs.command_laws.commands_are_lawful.Goals as goal

pub returns : goal.returns
returns c = graph_lawful
