use Rattle.std.proofs.lemmas.Result.{on_ok_weaker, on_err_weaker}
use Rattle.osm_change.proofs.SimplifyMachine.{simplify_stops, simplify_takes_end, simplify_takes_item}
use Rattle.osm_change.proofs.simplify.Simplify.accept.Goals as goal

pub returns-in-Item-clause-takes : goal.returns-in-Item-clause-takes
returns-in-Item-clause-takes c = on_ok_weaker c.take_item.result
    (simplify_takes_item c.args.self.now c.take_item.new.self c.args.port c.args.message c.in-Item.item c.in-Item.is
    c.requires)
    c.take_item.ensures.ok

pub returns-in-Item-clause-stops : goal.returns-in-Item-clause-stops
returns-in-Item-clause-stops c = on_err_weaker c.take_item.result
    (simplify_stops c.args.self.now c.take_item.new.self c.args.port c.args.message c.requires) c.take_item.ensures.err

pub returns-in-End-clause-takes : goal.returns-in-End-clause-takes
returns-in-End-clause-takes c = simplify_takes_end c.args.self.now c.take_end.new.self c.args.port c.args.message
    c.in-End.end c.in-End.is c.requires c.take_end.ensures
