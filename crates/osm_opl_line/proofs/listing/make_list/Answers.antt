use Rattle.std.proofs.Common.{Err, ap, arith}
use Rattle.osm_text.proofs.SplitLemmas.{IsUtf8-parts}
use Rattle.osm_opl_line.proofs.MadeListLemmas.{comma_parts, made-bad, made-more}
use Rattle.osm_opl_line.proofs.StartLemmas.{bad-handed_on, take-part}
use Rattle.osm_opl_line.proofs.WeighingLemmas.{length-split}
use Rattle.osm_opl_line.proofs.listing.make_list.Goals as goal

pub make_part-requires-clause-within : goal.make_part-requires-clause-within
make_part-requires-clause-within g c =
    let split = length-split c.loop-part.rest.now c.in-Some.part.now c.in-Some.more.now c.in-Some.ensures.some in
    omega arith

pub make_part-requires-clause-plain : goal.make_part-requires-clause-plain
make_part-requires-clause-plain g c = λ is_plain.
    rw (take-part c.loop-part.rest.now c.in-Some.part.now c.in-Some.more.now c.in-Some.ensures.some)
    (c.in-Some.ensures.plain is_plain)

pub make_part-requires-clause-utf8 : goal.make_part-requires-clause-utf8
make_part-requires-clause-utf8 g c =
    rw (take-part c.loop-part.rest.now c.in-Some.part.now c.in-Some.more.now c.in-Some.ensures.some)
    (IsUtf8-parts 44 c.loop-part.rest.now c.in-Some.part.now c.in-Some.more.now (omega arith) c.in-Some.ensures.some
    c.loop-part.invariant.utf8).0

pub returns-in_err-value-clause-refused : goal.returns-in_err-value-clause-refused
returns-in_err-value-clause-refused g c cause is =
    let bad = bad-handed_on c.from_residual-in_err-value.result c.in_err-value.field-0.0 cause
    c.from_residual-in_err-value.ensures.1 is in
    let here = take-part c.loop-part.rest.now c.in-Some.part.now c.in-Some.more.now c.in-Some.ensures.some in
    made-bad g.T.Part.weight g.T.Part.says c.args.content.now c.loop-part.list c.loop-part.total c.loop-part.rest.now
    c.in-Some.part.now (comma_parts c.in-Some.more.now) cause c.loop-part.invariant c.in-Some.ensures.some
    (rw here at (c.in_err-value.ensures.refused cause (ap Err bad)))

pub weighs-total-requires : goal.weighs-total-requires
weighs-total-requires g c =
    let split = length-split c.loop-part.rest.now c.in-Some.part.now c.in-Some.more.now c.in-Some.ensures.some in
    omega (arith, c.requires.short, c.loop-part.invariant.small, c.in_ok-value.ensures.light)

pub loop-part-preserved : goal.loop-part-preserved
loop-part-preserved g c =
    let here = take-part c.loop-part.rest.now c.in-Some.part.now c.in-Some.more.now c.in-Some.ensures.some in
    made-more g.T.Part.weight g.T.Part.says c.args.content.now c.loop-part.list c.push.new.self c.in_ok-value.value
    c.loop-part.total c.weighs-total.result c.loop-part.rest.now c.in-Some.part.now c.in-Some.more.now
    c.loop-part.invariant c.in-Some.ensures.some (rw here at c.in_ok-value.ensures.value) c.weighs-total.ensures
    c.in_ok-value.ensures.light c.in_ok-push.ensures.ok
