use Rattle.osm_used.proofs.UsingLemmas.{using_gives_at_end, using_is_lawful, using_keeps}
use Rattle.osm_used.proofs.laws.used_machines_keep_their_rule.Goals as goal

pub returns-clause-keeps : goal.returns-clause-keeps
returns-clause-keeps c = using_keeps

pub returns-clause-at_end : goal.returns-clause-at_end
returns-clause-at_end c = using_gives_at_end

pub returns-clause-lawful : goal.returns-clause-lawful
returns-clause-lawful c = using_is_lawful
