use Rattle.osm_wire.proofs.WrittenLemmas.{shortest_varint-small}
use Rattle.osm_wire.proofs.putting.put_varint.Goals as goal

pub returns-then-n-lt128-clause-ok : goal.returns-then-n-lt128-clause-ok
returns-then-n-lt128-clause-ok c = rw (shortest_varint-small c.args.n c.if-n-lt128.true) c.push.ensures.ok
