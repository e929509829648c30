use Rattle.std.proofs.Common.{rules}
use Rattle.osm_made.proofs.GeneratorLemmas.{next_node, next_relation, next_way}
use Rattle.osm_made.proofs.generator.Made.make.Goals as goal

pub returns-then-self-nodes : goal.returns-then-self-nodes
returns-then-self-nodes c = search (rules, next_node)

pub returns-then-after_nodes-ways : goal.returns-then-after_nodes-ways
returns-then-after_nodes-ways c = search (rules, next_way)

pub returns : goal.returns
returns c = search (rules, next_relation)
