use Rattle.osm_made.proofs.GeneratorLemmas.{length-items_to_come, length-made_list}
use Rattle.osm_made.proofs.laws.made_items_are_counted.Goals as goal

pub returns-clause-all : goal.returns-clause-all
returns-clause-all c = length-made_list

pub returns-clause-left : goal.returns-clause-left
returns-clause-left c = length-items_to_come
