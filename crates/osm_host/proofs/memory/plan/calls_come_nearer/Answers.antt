use Rattle.osm_host.proofs.Planned.{nearer_all}
use Rattle.osm_host.proofs.memory.plan.calls_come_nearer.Goals as goal

pub returns : goal.returns
returns c = nearer_all
