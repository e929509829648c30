use Rattle.std.proofs.lemmas.Result.{on_err_weaker}
use Rattle.osm_select.proofs.HoldingLemmas.{holding_stops}
use Rattle.osm_select.proofs.holding.Holding.accept.Goals as goal

pub returns-in-Item-clause-stops : goal.returns-in-Item-clause-stops
returns-in-Item-clause-stops c = on_err_weaker c.take_item.result (λ stopped.
    holding_stops c.args.self.now c.take_item.new.self c.args.message c.args.port stopped c.requires)
    c.take_item.ensures.stops

pub returns-in-End-clause-stops : goal.returns-in-End-clause-stops
returns-in-End-clause-stops c = on_err_weaker c.take_end.result (λ stopped.
    holding_stops c.args.self.now c.take_end.new.self c.args.message c.args.port stopped c.requires)
    c.take_end.ensures.stops
