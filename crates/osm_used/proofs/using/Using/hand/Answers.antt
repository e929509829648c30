use Rattle.std.proofs.Common.{rules}
use Rattle.osm_used.proofs.UsingLemmas.{used_gives_end, used_same}
use Rattle.osm_used.proofs.using.Using.hand.Goals as goal

pub returns-in-None-clause-gives : goal.returns-in-None-clause-gives
returns-in-None-clause-gives c = used_gives_end c.args.self.now c.close.new.self c.in-Giving.end c.args.port
    (search rules) c.close.ensures.phase (search rules) (search rules) c.requires

pub returns-in-None-clause-same : goal.returns-in-None-clause-same
returns-in-None-clause-same c = used_same c.args.self.now c.close.new.self (search rules)
