use Rattle.osm_net.proofs.AloneLemmas.{copies_stand}
use Rattle.osm_net.proofs.net.Net.new.Goals as goal

pub returns-in-Ok-clause-stands : goal.returns-in-Ok-clause-stands
returns-in-Ok-clause-stands g c = copies_stand g.M.TaskMachine.of c.args.pipes.now c.args.machines.items
    c.requires.tasks
    c.in-Ok.pipes.items c.in-Ok.queues.items c.in-Ok.ensures.pipes c.in-Ok.ensures.queues
