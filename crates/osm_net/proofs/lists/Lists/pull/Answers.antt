use Rattle.std.proofs.Common.{ap, ◌∙◌}
use Rattle.osm_net.proofs.CallLemmas.{alone_kept, on_err, pull_moves, pull_stops}
use Rattle.osm_net.proofs.lists.Lists.pull.Goals as goal

pub returns-in_err-pull-clause-stopped : goal.returns-in_err-pull-clause-stopped
returns-in_err-pull-clause-stopped g c = on_err c.from_residual.result
    (pull_stops g.M.TaskMachine.of g.met.M.TaskMachine.lawful (λ m. g.M.TaskMachine.reads (g.M.TaskMachine.names m))
    g.met.M.TaskMachine.readers
    c.args.self.now.pipes.items c.args.self.now.machines.items c.args.self.now.queues.items c.requires.net c.args.task
    c.requires.task c.index_mut-machine.result.now c.pull.new.self c.index_mut-machine.ensures.value
    c.pull.ensures.same
    (ap g.M.TaskMachine.of.wanted c.index_mut-machine.ensures.value ∙ c.requires.wants c.index_mut-machine.result.now)
    c.in_err-pull.ensures.stops)

pub returns-in_err-pull-clause-net : goal.returns-in_err-pull-clause-net
returns-in_err-pull-clause-net g c =
    alone_kept g.M.TaskMachine.of g.met.M.TaskMachine.lawful (λ m. g.M.TaskMachine.reads (g.M.TaskMachine.names m))
    g.met.M.TaskMachine.readers
    c.args.self.now.pipes.items c.args.self.now.machines.items c.args.self.now.queues.items c.requires.net c.args.task
    c.requires.task c.index_mut-machine.result.now c.pull.new.self c.index_mut-machine.ensures.value
    c.pull.ensures.same

pub returns-clause-moved : goal.returns-clause-moved
returns-clause-moved g c = λ ok.
    pull_moves g.M.TaskMachine.of g.met.M.TaskMachine.lawful (λ m. g.M.TaskMachine.reads (g.M.TaskMachine.names m))
    g.met.M.TaskMachine.readers
    c.args.self.now.pipes.items c.args.self.now.machines.items c.args.self.now.queues.items c.requires.net c.args.task
    c.requires.task c.index_mut-machine.result.now c.pull.new.self c.index_mut-machine.ensures.value
    c.pull.ensures.same
    (ap g.M.TaskMachine.of.wanted c.index_mut-machine.ensures.value ∙ c.requires.wants c.index_mut-machine.result.now)
    c.in_ok-pull.ensures.pulls

pub returns-clause-net : goal.returns-clause-net
returns-clause-net g c =
    alone_kept g.M.TaskMachine.of g.met.M.TaskMachine.lawful (λ m. g.M.TaskMachine.reads (g.M.TaskMachine.names m))
    g.met.M.TaskMachine.readers
    c.args.self.now.pipes.items c.args.self.now.machines.items c.args.self.now.queues.items c.requires.net c.args.task
    c.requires.task c.index_mut-machine.result.now c.pull.new.self c.index_mut-machine.ensures.value
    c.pull.ensures.same
