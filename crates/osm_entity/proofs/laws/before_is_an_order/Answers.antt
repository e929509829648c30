use Rattle.osm_entity.proofs.StreamLemmas.{before_itself, before_onward, before_both}
use Rattle.osm_entity.proofs.laws.before_is_an_order.Goals as goal

pub returns : goal.returns
returns c = record { itself = before_itself; onward = before_onward; both = before_both }
