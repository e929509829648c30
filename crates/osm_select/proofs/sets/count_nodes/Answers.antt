use Rattle.std.proofs.Common.{sym}
use Rattle.osm_select.proofs.FrontLemmas.{one_node_more}
use Rattle.osm_select.proofs.sets.count_nodes.Goals as goal

pub loop-place-preserved : goal.loop-place-preserved
loop-place-preserved c = one_node_more c.args.items.now c.loop-place.place c.get.result.now c.get.ensures
    (sym c.if-not-is_node.ensures) c.loop-place.invariant
