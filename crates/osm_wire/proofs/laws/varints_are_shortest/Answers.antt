use Rattle.osm_wire.proofs.WrittenLemmas.{shortest_varint-shortest, shortest_varint-spells}
use Rattle.osm_wire.proofs.laws.varints_are_shortest.Goals as goal

pub returns-clause-spells : goal.returns-clause-spells
returns-clause-spells c = shortest_varint-spells

pub returns-clause-shortest : goal.returns-clause-shortest
returns-clause-shortest c = shortest_varint-shortest
