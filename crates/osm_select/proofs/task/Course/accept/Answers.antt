use Rattle.std.proofs.lemmas.Result.{on_err_weaker, on_ok_weaker}
use Rattle.osm_select.proofs.SelectingLemmas.{holds_same, holds_stops, holds_takes, passes_same, passes_stops, passes_takes}
use Rattle.osm_select.proofs.task.Course.accept.Goals as goal

pub returns-in-Passes-clause-takes : goal.returns-in-Passes-clause-takes
returns-in-Passes-clause-takes c = rw c.in-Passes.is (on_ok_weaker c.accept.result
    (passes_takes c.args.port c.args.message c.in-Passes.passing c.accept.new.self) c.accept.ensures.takes)

pub returns-in-Passes-clause-stops : goal.returns-in-Passes-clause-stops
returns-in-Passes-clause-stops c = rw c.in-Passes.is (on_err_weaker c.accept.result
    (passes_stops c.args.port c.args.message c.in-Passes.passing c.accept.new.self) c.accept.ensures.stops)

pub returns-in-Passes-clause-same : goal.returns-in-Passes-clause-same
returns-in-Passes-clause-same c =
    rw c.in-Passes.is (passes_same c.in-Passes.passing c.accept.new.self c.accept.ensures.same)

pub returns-in-Holds-clause-takes : goal.returns-in-Holds-clause-takes
returns-in-Holds-clause-takes c = rw c.in-Holds.is (on_ok_weaker c.accept-in-Holds.result
    (holds_takes c.args.port c.args.message c.in-Holds.holding c.accept-in-Holds.new.self)
    c.accept-in-Holds.ensures.takes)

pub returns-in-Holds-clause-stops : goal.returns-in-Holds-clause-stops
returns-in-Holds-clause-stops c = rw c.in-Holds.is (on_err_weaker c.accept-in-Holds.result
    (holds_stops c.args.port c.args.message c.in-Holds.holding c.accept-in-Holds.new.self)
    c.accept-in-Holds.ensures.stops)

pub returns-in-Holds-clause-same : goal.returns-in-Holds-clause-same
returns-in-Holds-clause-same c =
    rw c.in-Holds.is (holds_same c.in-Holds.holding c.accept-in-Holds.new.self c.accept-in-Holds.ensures.same)
