use Rattle.osm_merge.proofs.AppendMachine.{appended_grows}
use Rattle.osm_merge.proofs.laws.appends_grow.Goals as goal

pub returns : goal.returns
returns c = appended_grows
