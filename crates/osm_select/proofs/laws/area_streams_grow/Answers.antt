use Rattle.osm_select.proofs.SelectingLemmas.{selected_grows, selected_is_monotone}
use Rattle.osm_select.proofs.laws.area_streams_grow.Goals as goal

pub returns-clause-grows : goal.returns-clause-grows
returns-clause-grows c = selected_grows

pub returns-clause-monotone : goal.returns-clause-monotone
returns-clause-monotone c = selected_is_monotone
