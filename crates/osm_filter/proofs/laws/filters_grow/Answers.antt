use Rattle.osm_filter.proofs.FilterLemmas.{filtered_grows, filtered_is_monotone}
use Rattle.osm_filter.proofs.laws.filters_grow.Goals as goal

pub returns-clause-grows : goal.returns-clause-grows
returns-clause-grows c = filtered_grows

pub returns-clause-monotone : goal.returns-clause-monotone
returns-clause-monotone c = filtered_is_monotone
