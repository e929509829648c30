use Rattle.osm_filter.proofs.FilterLemmas.{filtering_gives_at_once, filtering_is_lawful, filtering_keeps}
use Rattle.osm_filter.proofs.laws.filters_keep_their_rule.Goals as goal

pub returns-clause-keeps : goal.returns-clause-keeps
returns-clause-keeps c = filtering_keeps

pub returns-clause-at_once : goal.returns-clause-at_once
returns-clause-at_once c = filtering_gives_at_once

pub returns-clause-lawful : goal.returns-clause-lawful
returns-clause-lawful c = filtering_is_lawful
