use Rattle.std.proofs.Common.{◌≡◌, true, ap}
use Rattle.crossbeam_queue.specs.Passes.{ruled_capacity}
use Rattle.osm_pipe.specs.Spool.{ends_hand}
use Rattle.osm_pipe.specs.declared.rule.Hand.{Hand}
use Rattle.osm_pipe.specs.declared.store.Last.{Last}
use Rattle.osm_pipe.proofs.RuleLemmas.{sends, within_any, holds_less}
use Rattle.osm_pipe.proofs.spools.SpoolGiver.close.Goals as goal

pub push_as-requires-clause-rule : goal.push_as-requires-clause-rule
push_as-requires-clause-rule g c =
    let pass = c.half.inside.ends in
    let known = c.half.invariant.2.of_ends in
    let may : (ends_hand pass).sends ≡ true = ap (λ (v : Hand Last). v.sends) known in
    let places = ruled_capacity c.deref.result.now.slot in
    let any = within_any (ends_hand pass).limit places (ap (λ (v : Hand Last). v.limit) known) in (
      sends places pass.id (ends_hand pass) _ may any,
      holds_less pass.id (ends_hand pass) may,
    )
