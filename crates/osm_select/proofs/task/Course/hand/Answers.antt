use Rattle.osm_select.proofs.SelectingLemmas.{holds_gives, holds_same, passes_gives, passes_same}
use Rattle.osm_select.proofs.task.Course.hand.Goals as goal

pub returns-in-Passes-clause-gives : goal.returns-in-Passes-clause-gives
returns-in-Passes-clause-gives c = rw c.in-Passes.is
    (passes_gives c.args.port c.hand.result c.in-Passes.passing c.hand.new.self c.hand.ensures.gives)

pub returns-in-Passes-clause-same : goal.returns-in-Passes-clause-same
returns-in-Passes-clause-same c =
    rw c.in-Passes.is (passes_same c.in-Passes.passing c.hand.new.self c.hand.ensures.same)

pub returns-in-Holds-clause-gives : goal.returns-in-Holds-clause-gives
returns-in-Holds-clause-gives c = rw c.in-Holds.is (holds_gives c.args.port c.hand-in-Holds.result c.in-Holds.holding
    c.hand-in-Holds.new.self c.hand-in-Holds.ensures.gives)

pub returns-in-Holds-clause-same : goal.returns-in-Holds-clause-same
returns-in-Holds-clause-same c =
    rw c.in-Holds.is (holds_same c.in-Holds.holding c.hand-in-Holds.new.self c.hand-in-Holds.ensures.same)
