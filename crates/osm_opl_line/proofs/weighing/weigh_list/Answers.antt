use Rattle.std.proofs.Common.{arith}
use Rattle.std.specs.List.{sum_by}
use Rattle.osm_opl_line.specs.Contents.{all_in, parts_of}
use Rattle.osm_opl_line.specs.Cut.{weighed}
use Rattle.osm_opl_line.proofs.WeighingLemmas.{cause-handed_on, length-split, weighed-bad, weighed-end, weighed-step}
use Rattle.osm_opl_line.proofs.weighing.weigh_list.Goals as goal

pub weigh-requires : goal.weigh-requires
weigh-requires g c =
    let split = length-split c.loop-part.rest.now c.in-Some.part.now c.in-Some.more.now c.in-Some.ensures.some in
    omega (arith, c.requires, c.loop-part.invariant.small)

pub returns-in_err-total-clause-value : goal.returns-in_err-total-clause-value
returns-in_err-total-clause-value g c =
    cause-handed_on c.from_residual.result _ c.in_err-total.field-0.0 c.from_residual.ensures.1
    (weighed-bad g.T.Part.weight g.T.Part.says
    (weighed (sum_by g.T.Part.weight) (all_in g.T.Part.says (parts_of c.args.content.now)))
    c.loop-part.rest.now c.in-Some.part.now _ c.loop-part.total c.in_err-total.field-0.0 c.in-Some.ensures.some
    c.in_err-total.ensures.value c.loop-part.invariant.sum)

pub loop-part-preserved : goal.loop-part-preserved
loop-part-preserved g c =
    let split = length-split c.loop-part.rest.now c.in-Some.part.now c.in-Some.more.now c.in-Some.ensures.some in
    record {
      sum =
          weighed-step g.T.Part.weight g.T.Part.says
          (weighed (sum_by g.T.Part.weight) (all_in g.T.Part.says (parts_of c.args.content.now)))
          c.loop-part.rest.now c.in-Some.part.now c.in-Some.more.now c.loop-part.total c.in_ok-total.field-0
          c.in-Some.ensures.some c.in_ok-total.ensures.value c.loop-part.invariant.sum;
      small = omega (arith, c.in_ok-total.ensures.small, c.loop-part.invariant.small);
    }

pub returns-in_err-last-clause-value : goal.returns-in_err-last-clause-value
returns-in_err-last-clause-value g c =
    cause-handed_on c.from_residual-in_err-last.result _ c.in_err-last.field-0.0 c.from_residual-in_err-last.ensures.1
    (weighed-bad g.T.Part.weight g.T.Part.says
    (weighed (sum_by g.T.Part.weight) (all_in g.T.Part.says (parts_of c.args.content.now)))
    c.loop-part.rest.now c.loop-part.rest.now _ c.loop-part.total c.in_err-last.field-0.0 c.in_default.ensures.none
    c.in_err-last.ensures.value c.loop-part.invariant.sum)

pub returns-clause-value : goal.returns-clause-value
returns-clause-value g c =
    weighed-end g.T.Part.weight g.T.Part.says
    (weighed (sum_by g.T.Part.weight) (all_in g.T.Part.says (parts_of c.args.content.now)))
    c.loop-part.rest.now c.loop-part.total c.in_ok-last.last c.in_default.ensures.none
    c.in_ok-last.ensures.value c.loop-part.invariant.sum
