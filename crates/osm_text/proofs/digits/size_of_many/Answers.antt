use Rattle.osm_text.proofs.DigitsLemmas.{digits-more}
use Rattle.std.proofs.Common.{take}
use Rattle.std.specs.Str.Parse.{digits_value}
use Rattle.osm_text.proofs.digits.size_of_many.Goals as goal

pub loop-byte-preserved : goal.loop-byte-preserved
loop-byte-preserved c =
    let so_far = digits_value 10 (take c.loop-byte.byte-index c.args.bytes.now) in
    let step = digits-more c.args.bytes.now c.loop-byte.byte-index c.in-Some.digit c.longer-size.result
    c.loop-byte-test.true
    c.in-Some.ensures.value c.loop-byte.invariant.digits (c.longer-size.ensures so_far c.loop-byte.invariant.read) in
    record { read = step.0; digits = step.1 }
