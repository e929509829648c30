use Rattle.std.proofs.Common.{ap}
use Rattle.osm_pipe.specs.Spool.{items_hand, ends_hand}
use Rattle.osm_pipe.specs.declared.rule.Hand.{Hand}
use Rattle.osm_pipe.specs.declared.store.Last.{Last}
use Rattle.osm_pipe.proofs.SpoolLemmas.{spool_prefix}
use Rattle.osm_pipe.proofs.spools.halves.spool_meets.Goals as goal

pub returns : goal.returns
returns g c =
    let items = c.join_items.ensures in
    let ends = c.join_ends.ensures in
    let giver = c.sent.inside in
    let taker = c.taken.inside in
    let known = c.taken.invariant.2 in
    rw (← c.sent.view_is, ← c.taken.view_is) (
    spool_prefix (items_hand giver.items).sent (items_hand taker.items).taken items.0
    (ends_hand giver.ends).sent (ends_hand taker.ends).taken ends.0 taker.last taker.has_ended items.1 ends.1
    c.sent.invariant.2.each_counts (ap (λ (h : Hand Last). h.taken) known.of_ends) known.ended)
