use Rattle.std.proofs.Common.{sym, ap, ◌∙◌, set, arith}
use Rattle.std.proofs.lemmas.List.Edits.{map_over_more}
use Rattle.osm_host.specs.Plans.{nearer}
use Rattle.osm_host.proofs.memory.plan.pass_each.Goals as goal

pub loop-fail-preserved : goal.loop-fail-preserved
loop-fail-preserved c =
    let near = nearer c.args.op c.args.name.now in
    ap (set c.loop-fail.fails c.loop-fail.fail-index) (c.pass.ensures ∙ ap near (sym c.fail-item.is))
    ∙ map_over_more near c.args.fails.now c.loop-fail.fails c.loop-fail.fail-index c.fail-item.result
    (omega (arith, c.loop-fail-test.true)) c.loop-fail.invariant c.fail-item.is
