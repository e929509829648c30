use Rattle.osm_entity.proofs.PrefixLemmas.{prefix_itself, prefix_onward, prefix_both}
use Rattle.osm_entity.proofs.ports.prefix_is_an_order.Goals as goal

pub returns : goal.returns
returns g c = record { itself = prefix_itself; onward = prefix_onward; both = prefix_both }
