use Rattle.std.proofs.Common.{Ok, ap, ◌∙◌}
use Rattle.osm_nets_tests.proofs.ChainLemmas.{stands_still}
use Rattle.osm_nets_tests.proofs.stepping.step.Goals as goal

pub returns-clause-stands : goal.returns-clause-stands
returns-clause-stands g c = stands_still g.M.TaskMachine.of
    (λ m. g.M.TaskMachine.reads (g.M.TaskMachine.names m)) c.args.task c.args.net.now c.step.new.self c.in-Ok.stepped
    (λ is. c.step.ensures.moved (c.in-Ok.is ∙ ap Ok is)) c.in-Ok.ensures.still c.requires.stands
