use Rattle.osm_graph.proofs.GraphLemmas.{made-IsGraph}
use Rattle.osm_graph.proofs.connecting.connect.Goals as goal

pub invariant_of-result : goal.invariant_of-result
invariant_of-result c =
    made-IsGraph c.args.tasks c.as_slice.result.now c.as_slice-2.result.now c.in_ok-pipes.pipes c.as_slice.ensures
    c.as_slice-2.ensures c.in_ok-pipes.ensures.ok c.in_ok-pipes.ensures.kept c.in_ok-check_files.ensures.fine
