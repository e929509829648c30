use Rattle.osm_machine.proofs.PullLemmas.{pulling_has_source}
use Rattle.osm_machine.proofs.laws.pulling_machines_have_a_source.Goals as goal

pub returns : goal.returns
returns g c = pulling_has_source
