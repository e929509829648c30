use Rattle.osm_made.proofs.SumLemmas.{summed_over-made_list}
use Rattle.osm_made.proofs.laws.made_items_are_summed.Goals as goal

pub returns : goal.returns
returns c = summed_over-made_list
