use Rattle.osm_used.proofs.UsedLemmas.{used_grows, used_is_monotone}
use Rattle.osm_used.proofs.laws.used_streams_grow.Goals as goal

pub returns-clause-grows : goal.returns-clause-grows
returns-clause-grows c = used_grows

pub returns-clause-monotone : goal.returns-clause-monotone
returns-clause-monotone c = used_is_monotone
