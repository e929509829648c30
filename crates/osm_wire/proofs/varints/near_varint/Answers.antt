use Rattle.std.proofs.Common.{sym, arith}
use Rattle.osm_wire.proofs.VarintLemmas.{leading_number-two, leading_number-three, leading_number-four, leading_number-five}
use Rattle.osm_wire.proofs.varints.near_varint.Goals as goal

pub returns-then-second-lt128-clause-value : goal.returns-then-second-lt128-clause-value
returns-then-second-lt128-clause-value c =
    sym (leading_number-two c.args.bytes.now (omega arith) c.requires c.if-second-lt128.true)

pub returns-then-third-lt128-clause-value : goal.returns-then-third-lt128-clause-value
returns-then-third-lt128-clause-value c =
    sym (leading_number-three c.args.bytes.now (omega arith) c.requires c.if-second-lt128.false c.if-third-lt128.true)

pub returns-then-fourth-lt128-clause-value : goal.returns-then-fourth-lt128-clause-value
returns-then-fourth-lt128-clause-value c =
    sym
    (leading_number-four c.args.bytes.now (omega arith) c.requires c.if-second-lt128.false c.if-third-lt128.false
    c.if-fourth-lt128.true)

pub returns-then-fifth-lt128-clause-value : goal.returns-then-fifth-lt128-clause-value
returns-then-fifth-lt128-clause-value c =
    sym
    (leading_number-five c.args.bytes.now (omega arith) c.requires c.if-second-lt128.false c.if-third-lt128.false
    c.if-fourth-lt128.false c.if-fifth-lt128.true)
