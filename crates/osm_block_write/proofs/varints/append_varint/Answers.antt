use Rattle.osm_wire.proofs.WrittenLemmas.{shortest_varint-small}
use Rattle.osm_block_write.proofs.VarintLemmas.{five_bytes, four_bytes, three_bytes, two_bytes}
use Rattle.osm_block_write.proofs.varints.append_varint.Goals as goal

pub returns-then-n-lt128-clause-ok : goal.returns-then-n-lt128-clause-ok
returns-then-n-lt128-clause-ok c = rw (shortest_varint-small c.args.n c.if-n-lt128.true) c.push.ensures.ok

pub returns-then-second-lt128-clause-ok : goal.returns-then-second-lt128-clause-ok
returns-then-second-lt128-clause-ok c =
    rw (two_bytes c.args.n c.if-n-lt128.false c.if-second-lt128.true) (rw c.leading.ensures at c.append.ensures.ok)

pub returns-then-third-lt128-clause-ok : goal.returns-then-third-lt128-clause-ok
returns-then-third-lt128-clause-ok c =
    rw (three_bytes c.args.n c.if-n-lt128.false c.if-second-lt128.false c.if-third-lt128.true)
    (rw (c.leading-then-third-lt128.ensures, c.leading-then-third-lt128-2.ensures) at
    c.append-then-third-lt128.ensures.ok)

pub returns-then-fourth-lt128-clause-ok : goal.returns-then-fourth-lt128-clause-ok
returns-then-fourth-lt128-clause-ok c =
    rw (four_bytes c.args.n c.if-n-lt128.false c.if-second-lt128.false c.if-third-lt128.false c.if-fourth-lt128.true)
    (rw (
      c.leading-then-fourth-lt128.ensures,
      c.leading-then-fourth-lt128-2.ensures,
      c.leading-then-fourth-lt128-3.ensures,
    ) at c.append-then-fourth-lt128.ensures.ok)

pub returns-then-fifth-lt128-clause-ok : goal.returns-then-fifth-lt128-clause-ok
returns-then-fifth-lt128-clause-ok c =
    rw (five_bytes c.args.n c.if-n-lt128.false c.if-second-lt128.false c.if-third-lt128.false c.if-fourth-lt128.false
    c.if-fifth-lt128.true)
    (rw (
      c.leading-then-fifth-lt128.ensures,
      c.leading-then-fifth-lt128-2.ensures,
      c.leading-then-fifth-lt128-3.ensures,
      c.leading-then-fifth-lt128-4.ensures,
    ) at c.append-then-fifth-lt128.ensures.ok)
