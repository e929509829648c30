use Rattle.std.proofs.Common.{subst, sym}
use Rattle.std.specs.Prelude.{OnErr}
use Rattle.osm_net.specs.NetLists.{net_of}
use Rattle.osm_net.specs.Networks.{HasMoved, HasStopped, StandsForSome}
use Rattle.osm_net.proofs.net.Net.step.Goals as goal

pub step-requires-clause-stands : goal.step-requires-clause-stands
step-requires-clause-stands g c = subst (StandsForSome g.M.TaskMachine.of) (sym c.self.view_is) c.requires.stands

pub returns-clause-moved : goal.returns-clause-moved
returns-clause-moved g c = λ ok.
    subst (λ n. HasMoved g.M.TaskMachine.of (λ m. g.M.TaskMachine.reads (g.M.TaskMachine.names m)) c.args.task n
    (net_of c.step.new.self)) c.self.view_is (c.step.ensures.moved ok)

pub returns-clause-stopped : goal.returns-clause-stopped
returns-clause-stopped g c =
    subst (λ n. OnErr c.step.result (HasStopped g.M.TaskMachine.of
    (λ m. g.M.TaskMachine.reads (g.M.TaskMachine.names m)) n (net_of c.step.new.self))) c.self.view_is
    c.step.ensures.stopped
