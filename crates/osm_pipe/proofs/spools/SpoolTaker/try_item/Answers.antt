use Rattle.std.proofs.Common.{rules, ◌≡◌, false, subst}
use Rattle.crossbeam_queue.specs.SegTies.{IsSegPassOf}
use Rattle.osm_pipe.specs.Spool.{items_hand, ends_hand}
use Rattle.osm_pipe.specs.declared.store.Store.{Store}
use Rattle.osm_pipe.proofs.SpoolLemmas.{takes_item}
use Rattle.osm_pipe.proofs.spools.SpoolTaker.try_item.Goals as goal

pub invariant_of-half : goal.invariant_of-half
invariant_of-half g c =
    let half = c.half.inside in
    let not : c.half.inside.has_ended ≡ false = search rules in (
      subst (λ (s : Store). IsSegPassOf s.queue c.pop_as.new.pass) c.deref.ensures c.pop_as.ensures.queue.0,
      c.half.invariant.1,
      takes_item (items_hand half.items) (items_hand c.pop_as.new.pass) (ends_hand half.ends) half.count half.last
          half.has_ended c.in-Some.item c.half.invariant.2 c.in-Some.ensures.rule.0 not,
    )
