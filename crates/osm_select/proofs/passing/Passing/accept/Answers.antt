use Rattle.std.proofs.Common.{◌≡◌}
use Rattle.osm_select.proofs.PassingLemmas.{passing_port}
use Rattle.osm_select.proofs.passing.Passing.accept.Goals as goal

pub returns-in-Item-clause-stops : goal.returns-in-Item-clause-stops
returns-in-Item-clause-stops c =
    let first : c.args.port ≡ 0 = passing_port c.args.self.now.held c.args.self.now.end c.args.port c.requires in
    rw (c.in-Item.is, first) c.take_item.ensures.stops

pub returns-in-End-clause-takes : goal.returns-in-End-clause-takes
returns-in-End-clause-takes c =
    let first : c.args.port ≡ 0 = passing_port c.args.self.now.held c.args.self.now.end c.args.port c.requires in
    rw (c.in-End.is, first) c.take_end.ensures.takes
