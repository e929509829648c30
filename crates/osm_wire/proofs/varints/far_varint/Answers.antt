use Rattle.std.proofs.Common.{◌≡◌, length, take, sym, length-take, arith}
use Rattle.std.specs.Prelude.{min}
use Rattle.osm_wire.proofs.VarintLemmas.{GoOn-more, leading_number-ends, number_more, position-none, take-GoOn}
use Rattle.osm_wire.proofs.varints.far_varint.Goals as goal

pub overflow_add-number : goal.overflow_add-number
overflow_add-number c =
    let more =
    number_more c.args.bytes.now c.loop-size.size c.loop-size.number (omega arith) (omega arith)
    c.loop-size.invariant.value
    c.loop-size.invariant.small in
    omega (arith, more.2)

pub returns-then-byte-lt128-clause-value : goal.returns-then-byte-lt128-clause-value
returns-then-byte-lt128-clause-value c =
    let more =
    number_more c.args.bytes.now c.loop-size.size c.loop-size.number (omega arith) (omega arith)
    c.loop-size.invariant.value
    c.loop-size.invariant.small in
    sym
    (leading_number-ends c.args.bytes.now c.loop-size.size _ (omega arith) (omega arith) c.loop-size.invariant.more
    c.if-byte-lt128.true more.0 more.2)

pub loop-size-preserved : goal.loop-size-preserved
loop-size-preserved c =
    let more =
    number_more c.args.bytes.now c.loop-size.size c.loop-size.number (omega arith) (omega arith)
    c.loop-size.invariant.value
    c.loop-size.invariant.small in
    record {
      more = GoOn-more c.args.bytes.now c.loop-size.size c.loop-size.invariant.more c.if-byte-lt128.false;
      value = more.0;
      small = more.1;
    }

pub longest_varint-requires-clause-high : goal.longest_varint-requires-clause-high
longest_varint-requires-clause-high c =
    let long : length (take 9 c.args.bytes.now) ≡ min 9 (length c.args.bytes.now) = length-take 9 c.args.bytes.now in
    position-none (take 9 c.args.bytes.now)
    (λ k below. take-GoOn c.args.bytes.now 9 c.loop-size.size (omega arith) c.loop-size.invariant.more k
    (omega (arith, long, below)))
