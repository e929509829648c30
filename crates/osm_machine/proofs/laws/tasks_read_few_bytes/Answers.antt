use Rattle.osm_machine.proofs.LimitLemmas.{kind_limit}
use Rattle.osm_machine.proofs.laws.tasks_read_few_bytes.Goals as goal

pub returns : goal.returns
returns c = kind_limit
