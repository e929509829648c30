use Rattle.std.proofs.lemmas.Result.{on_ok_weaker, on_err_weaker}
use Rattle.osm_sort.proofs.SortMachineLemmas.{sort_takes_item, sort_takes_end, sort_stops}
use Rattle.osm_sort.proofs.sort.Sort.accept.Goals as goal

pub returns-in-Item-clause-takes : goal.returns-in-Item-clause-takes
returns-in-Item-clause-takes c = on_ok_weaker c.take_item.result
    (sort_takes_item c.args.self.now c.take_item.new.self c.args.port c.args.message c.in-Item.item c.in-Item.is
    c.requires)
    c.take_item.ensures.ok

pub returns-in-Item-clause-stops : goal.returns-in-Item-clause-stops
returns-in-Item-clause-stops c = on_err_weaker c.take_item.result
    (sort_stops c.args.self.now c.take_item.new.self c.args.port c.args.message c.requires) c.take_item.ensures.err

pub returns-in-End-clause-takes : goal.returns-in-End-clause-takes
returns-in-End-clause-takes c = on_ok_weaker c.take_end.result
    (sort_takes_end c.args.self.now c.take_end.new.self c.args.port c.args.message c.in-End.end c.in-End.is c.requires)
    c.take_end.ensures.ok

pub returns-in-End-clause-stops : goal.returns-in-End-clause-stops
returns-in-End-clause-stops c = on_err_weaker c.take_end.result
    (sort_stops c.args.self.now c.take_end.new.self c.args.port c.args.message c.requires) c.take_end.ensures.err
