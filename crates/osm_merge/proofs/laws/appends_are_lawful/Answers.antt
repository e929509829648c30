use Rattle.osm_merge.specs.Append.{appending}
use Rattle.osm_merge.proofs.AppendMachine.{append_keeps}
use Rattle.osm_merge.proofs.TwoInputLemmas.{two_are_lawful}
use Rattle.osm_merge.proofs.laws.appends_are_lawful.Goals as goal

pub returns : goal.returns
returns c = two_are_lawful appending append_keeps
