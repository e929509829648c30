use Rattle.std.proofs.Common.{◌≤◌, ◌+◌, ◌^◌, arith}
use Rattle.osm_text.proofs.DegreesLemmas.{pow-within, read-more}
use Rattle.osm_text.proofs.degrees.read_on.Goals as goal

pub overflow_mul-total : goal.overflow_mul-total
overflow_mul-total c =
    let bound : 10 ^ (c.args.seen + c.loop-byte.byte-index) ≤ 10 ^ 37 =
    pow-within (c.args.seen + c.loop-byte.byte-index) 37 (omega arith) in
    omega arith

pub overflow_add-total : goal.overflow_add-total
overflow_add-total c =
    let bound : 10 ^ (c.args.seen + c.loop-byte.byte-index) ≤ 10 ^ 37 =
    pow-within (c.args.seen + c.loop-byte.byte-index) 37 (omega arith) in
    omega (arith, c.in-Some.ensures.size)

pub loop-byte-preserved : goal.loop-byte-preserved
loop-byte-preserved c =
    let step = read-more c.args.bytes.now c.args.number c.loop-byte.total c.args.seen c.loop-byte.byte-index
    c.in-Some.digit c.loop-byte-test.true c.in-Some.ensures.size c.in-Some.ensures.value c.loop-byte.invariant.read
    c.loop-byte.invariant.digits c.loop-byte.invariant.small in
    record { read = step.0; digits = step.1; small = step.2 }
