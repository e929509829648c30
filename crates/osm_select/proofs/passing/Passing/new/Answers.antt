use Rattle.osm_select.proofs.PassingLemmas.{passing_new}
use Rattle.osm_select.proofs.passing.Passing.new.Goals as goal

pub returns-clause-new : goal.returns-clause-new
returns-clause-new c = passing_new c.args.area c.args.clip c.new.result c.new-2.result c.new.ensures c.new-2.ensures
