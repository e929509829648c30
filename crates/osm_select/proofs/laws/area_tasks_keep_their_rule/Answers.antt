use Rattle.osm_select.proofs.SelectingLemmas.{selecting_gives_at_end, selecting_gives_at_once, selecting_is_lawful, selecting_keeps}
use Rattle.osm_select.proofs.laws.area_tasks_keep_their_rule.Goals as goal

pub returns-clause-keeps : goal.returns-clause-keeps
returns-clause-keeps c = selecting_keeps

pub returns-clause-at_once : goal.returns-clause-at_once
returns-clause-at_once c = selecting_gives_at_once

pub returns-clause-at_end : goal.returns-clause-at_end
returns-clause-at_end c = selecting_gives_at_end

pub returns-clause-lawful : goal.returns-clause-lawful
returns-clause-lawful c = selecting_is_lawful
