use Rattle.std.proofs.Common.{rules}
use Rattle.osm_select.proofs.OrderLemmas.{admits_back, admits_none, admits_one}
use Rattle.osm_select.proofs.order.Order.admits.Goals as goal

pub returns-then-is_some : goal.returns-then-is_some
returns-then-is_some c =
    admits_none c.args.kind c.args.self.now.last c.args.self.now.count c.args.self.now.fault (search rules)

pub returns-then-lt : goal.returns-then-lt
returns-then-lt c = admits_back c.args.kind c.args.self.now.last c.args.self.now.count c.saturating_add-number.result
    c.args.self.now.fault (search rules) (search rules) (search rules)

pub returns : goal.returns
returns c = admits_one c.args.kind c.args.self.now.last c.args.self.now.count c.saturating_add-number.result
    c.args.self.now.fault (search rules) (search rules) (search rules)
