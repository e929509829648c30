use Rattle.osm_machine.proofs.DeviceLemmas.{devices_told}
use Rattle.osm_machine.proofs.laws.machines_tell_of_their_devices.Goals as goal

pub returns : goal.returns
returns g c = devices_told
