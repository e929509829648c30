use Rattle.std.proofs.Common.{◌≤◌, ◌^◌, arith}
use Rattle.osm_text.proofs.DegreesLemmas.{pow-within}
use Rattle.osm_text.proofs.DigitsLemmas.{few-more}
use Rattle.osm_text.proofs.digits.size_of_few.Goals as goal

pub overflow_mul-size : goal.overflow_mul-size
overflow_mul-size c =
    let bound : 10 ^ c.loop-byte.byte-index ≤ 10 ^ 17 = pow-within c.loop-byte.byte-index 17 (omega arith) in
    omega arith

pub overflow_add-size : goal.overflow_add-size
overflow_add-size c =
    let bound : 10 ^ c.loop-byte.byte-index ≤ 10 ^ 17 = pow-within c.loop-byte.byte-index 17 (omega arith) in
    omega (arith, c.in-Some.ensures.size)

pub loop-byte-preserved : goal.loop-byte-preserved
loop-byte-preserved c =
    let step = few-more c.args.bytes.now c.loop-byte.byte-index c.in-Some.digit c.loop-byte.size
    c.loop-byte-test.true c.in-Some.ensures.value c.loop-byte.invariant.digits c.loop-byte.invariant.read
    c.loop-byte.invariant.small in
    record { read = step.0; digits = step.1; small = step.2 }
