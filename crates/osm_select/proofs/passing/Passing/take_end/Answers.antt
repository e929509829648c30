use Rattle.osm_select.proofs.PassingLemmas.{passing_takes_end}
use Rattle.osm_select.proofs.passing.Passing.take_end.Goals as goal

pub returns-clause-takes : goal.returns-clause-takes
returns-clause-takes c = rw c.end_after.ensures (passing_takes_end c.args.self.now c.args.end c.requires)
