use Rattle.std.proofs.Common.{◌≡◌, ◌∙◌, [], ap, subst}
use Rattle.crossbeam_queue.specs.SegTies.{IsSegPassOf}
use Rattle.osm_entity.specs.Items.{ItemValue}
use Rattle.osm_entity.specs.Ports.{has_end}
use Rattle.osm_pipe.specs.Spool.{SpoolValue, items_hand, ends_hand}
use Rattle.osm_pipe.specs.declared.rule.Hand.{Hand}
use Rattle.osm_pipe.specs.declared.store.Store.{Store}
use Rattle.osm_pipe.proofs.RuleLemmas.{sends, within_any}
use Rattle.osm_pipe.proofs.SpoolLemmas.{no_ends, gives_item}
use Rattle.osm_pipe.proofs.spools.SpoolGiver.push.Goals as goal

pub push_as-requires-clause-rule : goal.push_as-requires-clause-rule
push_as-requires-clause-rule g c =
    let pass = c.half.inside.items in
    let known = c.half.invariant.2.of_items in
    λ n. sends n pass.id (items_hand pass) c.args.item (ap (λ (v : Hand ItemValue). v.sends) known)
    (within_any (items_hand pass).limit n (ap (λ (v : Hand ItemValue). v.limit) known))

pub invariant_of-half : goal.invariant_of-half
invariant_of-half g c =
    let ends = ends_hand c.half.inside.ends in
    let items = items_hand c.half.inside.items in
    let unended = ap (λ (h : SpoolValue). has_end h.list) c.half.view_is ∙ c.requires.before_end in
    let none : ends.sent ≡ [] = no_ends items.sent ends.sent unended in (
      subst (λ (s : Store). IsSegPassOf s.queue c.push_as.new.pass) c.deref.ensures c.push_as.ensures.queue.0,
      c.half.invariant.1,
      gives_item items (items_hand c.push_as.new.pass) ends c.half.inside.count c.args.item c.half.invariant.2
          c.in-Ok.ensures.rule.0 none,
    )
