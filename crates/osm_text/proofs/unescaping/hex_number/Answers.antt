use Rattle.std.proofs.Common.{arith}
use Rattle.osm_text.proofs.UnescapeLemmas.{hex-fits, hex-more}
use Rattle.osm_text.proofs.unescaping.hex_number.Goals as goal

pub overflow_mul-number : goal.overflow_mul-number
overflow_mul-number c =
    let fits = hex-fits c.args.bytes.now c.loop-byte.byte-index c.loop-byte.number c.in-Some.value
    c.loop-byte-test.true (omega arith) c.in-Some.ensures c.loop-byte.invariant in
    omega arith

pub overflow_add-number : goal.overflow_add-number
overflow_add-number c =
    let fits = hex-fits c.args.bytes.now c.loop-byte.byte-index c.loop-byte.number c.in-Some.value
    c.loop-byte-test.true (omega arith) c.in-Some.ensures c.loop-byte.invariant in
    omega arith

pub loop-byte-preserved : goal.loop-byte-preserved
loop-byte-preserved c =
    hex-more c.args.bytes.now c.loop-byte.byte-index c.loop-byte.number c.in-Some.value
    c.loop-byte-test.true c.in-Some.ensures c.loop-byte.invariant
