use Rattle.osm_machine.proofs.MachineParts.{machines_are_lawful}
use Rattle.osm_machine.proofs.laws.machines_are_lawful.Goals as goal

pub returns : goal.returns
returns g c = machines_are_lawful
