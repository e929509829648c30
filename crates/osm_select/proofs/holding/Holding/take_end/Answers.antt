use Rattle.std.proofs.Common.{◌∙◌, ap}
use Rattle.osm_select.specs.Held.{items_held}
use Rattle.osm_select.specs.declared.holding.Holding.{Holding}
use Rattle.osm_select.specs.declared.phase.Phase.TheVariants.{Giving}
use Rattle.osm_select.proofs.HoldingLemmas.{holding_takes_end}
use Rattle.osm_select.proofs.holding.Holding.take_end.Goals as goal

pub returns-in-Ok-clause-takes : goal.returns-in-Ok-clause-takes
returns-in-Ok-clause-takes c =
    let h = c.args.self.now in
    holding_takes_end h _ c.args.end c.requires
    (c.in-Ok.ensures.chosen ∙ ap (items_held h.area h.complete h.clip h.items) c.end_after-last.ensures)
    c.settle.ensures.shorter (ap (λ (n : Holding). record n { phase = Giving c.args.end }) c.settle.ensures.same)
