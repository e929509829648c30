use Rattle.std.proofs.Common.{◌≡◌, ◌∙◌, ◌-◌, length, ap, arith, length-drop}
use Rattle.osm_area.proofs.BoundsLemmas.{runs_fit-all, runs_fit-more}
use Rattle.osm_area.proofs.group.runs_of.Goals as goal

pub loop-rest-preserved : goal.loop-rest-preserved
loop-rest-preserved c more fits =
    runs_fit-more c.loop-rest.runs c.push.new.self more c.bounds_of.result c.args.path.now c.loop-rest.rest.now
    c.loop-rest.invariant (rw c.first_run.ensures at c.bounds_of.ensures) c.in_ok-push.ensures.ok
    (rw c.after_run-rest.ensures at fits)

pub returns : goal.returns
returns c =
    runs_fit-all c.loop-rest.runs c.args.path.now c.loop-rest.rest.now c.loop-rest.invariant c.loop-rest-test.false

pub loop-rest-smaller : goal.loop-rest-smaller
loop-rest-smaller c =
    let left : length c.after_run-rest.result.now ≡ length c.loop-rest.rest.now - 32 =
    ap (λ path. length path) c.after_run-rest.ensures ∙ length-drop 32 c.loop-rest.rest.now in
    omega (arith, left, c.loop-rest-test.true)
