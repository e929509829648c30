use Rattle.std.proofs.Common.{ap}
use Rattle.osm_net.proofs.CallLemmas.{call_kept, call_moves, call_stops, on_err}
use Rattle.osm_net.proofs.StepLemmas.{net_with, put_back}
use Rattle.osm_net.proofs.lists.Lists.take.Goals as goal

pub returns-in_default-clause-still : goal.returns-in_default-clause-still
returns-in_default-clause-still g c = λ not.
    ap (net_with c.args.self.now.pipes.items c.args.self.now.machines.items)
    (put_back c.args.self.now.queues.items c.args.pipe c.index_mut-queue.result.now c.take.new.self
    c.index_mut-queue.ensures.value c.in_default.ensures.message c.take.ensures.store)

pub returns-in_err-accept-clause-stopped : goal.returns-in_err-accept-clause-stopped
returns-in_err-accept-clause-stopped g c = on_err c.from_residual.result
    (call_stops g.M.TaskMachine.of g.met.M.TaskMachine.lawful (λ m. g.M.TaskMachine.reads (g.M.TaskMachine.names m))
    g.met.M.TaskMachine.readers
    c.args.self.now.pipes.items c.args.self.now.machines.items c.args.self.now.queues.items c.requires.net c.args.task
    c.requires.task c.index_mut-machine.result.now c.accept.new.self c.index_mut-machine.ensures.value
    c.accept.ensures.same c.args.pipe c.args.port c.requires.there c.index_mut-queue.result.now c.take.new.self
    c.index_mut-queue.ensures.value
    c.in-Some.message c.in-Some.ensures.message c.in_err-accept.ensures.stops)

pub returns-in_err-accept-clause-net : goal.returns-in_err-accept-clause-net
returns-in_err-accept-clause-net g c =
    call_kept g.M.TaskMachine.of g.met.M.TaskMachine.lawful (λ m. g.M.TaskMachine.reads (g.M.TaskMachine.names m))
    g.met.M.TaskMachine.readers
    c.args.self.now.pipes.items c.args.self.now.machines.items c.args.self.now.queues.items c.requires.net c.args.task
    c.requires.task c.index_mut-machine.result.now c.accept.new.self c.index_mut-machine.ensures.value
    c.accept.ensures.same c.args.pipe c.args.port c.requires.there c.index_mut-queue.result.now c.take.new.self
    c.index_mut-queue.ensures.value
    c.take.ensures.store

pub returns-clause-moved : goal.returns-clause-moved
returns-clause-moved g c = λ ok.
    call_moves g.M.TaskMachine.of g.met.M.TaskMachine.lawful (λ m. g.M.TaskMachine.reads (g.M.TaskMachine.names m))
    g.met.M.TaskMachine.readers
    c.args.self.now.pipes.items c.args.self.now.machines.items c.args.self.now.queues.items c.requires.net c.args.task
    c.requires.task c.index_mut-machine.result.now c.accept.new.self c.index_mut-machine.ensures.value
    c.accept.ensures.same c.args.pipe c.args.port c.requires.there c.index_mut-queue.result.now c.take.new.self
    c.index_mut-queue.ensures.value
    c.in-Some.message c.in-Some.ensures.message c.in_ok-accept.ensures.takes

pub returns-clause-net : goal.returns-clause-net
returns-clause-net g c =
    call_kept g.M.TaskMachine.of g.met.M.TaskMachine.lawful (λ m. g.M.TaskMachine.reads (g.M.TaskMachine.names m))
    g.met.M.TaskMachine.readers
    c.args.self.now.pipes.items c.args.self.now.machines.items c.args.self.now.queues.items c.requires.net c.args.task
    c.requires.task c.index_mut-machine.result.now c.accept.new.self c.index_mut-machine.ensures.value
    c.accept.ensures.same c.args.pipe c.args.port c.requires.there c.index_mut-queue.result.now c.take.new.self
    c.index_mut-queue.ensures.value
    c.take.ensures.store
