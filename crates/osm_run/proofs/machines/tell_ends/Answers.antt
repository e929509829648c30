use Rattle.std.proofs.Common.{arith}
use Rattle.osm_run.proofs.LeavingLemmas.{same_lists}
use Rattle.osm_run.proofs.machines.tell_ends.Goals as goal

pub returns : goal.returns
returns c = same_lists c.loop-at.ends c.args.told.now c.loop-at.invariant.count
    (λ k d known. c.loop-at.invariant.told k d (omega arith))
