use Rattle.std.proofs.Common.{◌≡◌, ◌∙◌, ◌-◌, length, ap, arith, length-drop}
use Rattle.osm_area.specs.declared.group.Group.{Group}
use Rattle.osm_area.proofs.BoundsLemmas.{groups_fit-all, groups_fit-more}
use Rattle.osm_area.proofs.group.groups_of.Goals as goal

pub loop-rest-preserved : goal.loop-rest-preserved
loop-rest-preserved c more fits =
    let group : Group = record { bounds = c.bounds_of.result; runs = c.in_ok-runs.runs } in
    groups_fit-more c.loop-rest.groups c.push.new.self more group c.args.path.now c.loop-rest.rest.now
    c.loop-rest.invariant (rw c.first_group-group.ensures at c.bounds_of.ensures)
    (rw c.first_group-group.ensures at c.in_ok-runs.ensures) c.in_ok-push.ensures.ok
    (rw c.after_group-rest.ensures at fits)

pub returns : goal.returns
returns c =
    groups_fit-all c.loop-rest.groups c.args.path.now c.loop-rest.rest.now c.loop-rest.invariant
    c.loop-rest-test.false

pub loop-rest-smaller : goal.loop-rest-smaller
loop-rest-smaller c =
    let left : length c.after_group-rest.result.now ≡ length c.loop-rest.rest.now - 1024 =
    ap (λ path. length path) c.after_group-rest.ensures ∙ length-drop 1024 c.loop-rest.rest.now in
    omega (arith, left, c.loop-rest-test.true)
