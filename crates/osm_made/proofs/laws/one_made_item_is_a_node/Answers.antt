use Rattle.std.proofs.Common.{refl}
use Rattle.osm_made.specs.Generator.{made_list}
use Rattle.osm_made.proofs.laws.one_made_item_is_a_node.Goals as goal

pub returns : goal.returns
unfolding made_list
returns c = refl
