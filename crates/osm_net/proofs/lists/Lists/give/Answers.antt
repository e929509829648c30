use Rattle.std.proofs.Common.{ap, slice_set, sym, ◌∙◌}
use Rattle.osm_net.proofs.CallLemmas.{alone_kept, give_kept, give_lost, give_moves, give_stops, on_err, room_read}
use Rattle.osm_net.proofs.lists.Lists.give.Goals as goal

pub returns-in_err-message-clause-stopped : goal.returns-in_err-message-clause-stopped
returns-in_err-message-clause-stopped g c = on_err c.from_residual.result
    (give_stops g.M.TaskMachine.of g.met.M.TaskMachine.lawful (λ m. g.M.TaskMachine.reads (g.M.TaskMachine.names m))
    g.met.M.TaskMachine.readers
    c.args.self.now.pipes.items c.args.self.now.machines.items c.args.self.now.queues.items c.requires.net c.args.task
    c.requires.task c.index_mut-machine.result.now c.hand.new.self c.index_mut-machine.ensures.value
    c.hand.ensures.same
    c.in_err-message.ensures.stops)

pub returns-in_err-message-clause-net : goal.returns-in_err-message-clause-net
returns-in_err-message-clause-net g c =
    alone_kept g.M.TaskMachine.of g.met.M.TaskMachine.lawful (λ m. g.M.TaskMachine.reads (g.M.TaskMachine.names m))
    g.met.M.TaskMachine.readers
    c.args.self.now.pipes.items c.args.self.now.machines.items c.args.self.now.queues.items c.requires.net c.args.task
    c.requires.task c.index_mut-machine.result.now c.hand.new.self c.index_mut-machine.ensures.value
    c.hand.ensures.same

pub returns-in_err-give-clause-stopped : goal.returns-in_err-give-clause-stopped
returns-in_err-give-clause-stopped g c = on_err c.from_residual-in_err-give.result
    (give_lost g.M.TaskMachine.of g.met.M.TaskMachine.lawful (λ m. g.M.TaskMachine.reads (g.M.TaskMachine.names m))
    g.met.M.TaskMachine.readers
    c.args.self.now.pipes.items c.args.self.now.machines.items c.args.self.now.queues.items c.requires.net c.args.task
    c.requires.task c.index_mut-machine.result.now c.hand.new.self c.index_mut-machine.ensures.value
    c.hand.ensures.same
    c.args.port c.in_ok-message.message
    (slice_set c.args.self.now.queues.items c.args.pipe c.give.new.self) c.in_ok-message.ensures.gives)

pub returns-in_err-give-clause-net : goal.returns-in_err-give-clause-net
returns-in_err-give-clause-net g c =
    give_kept g.M.TaskMachine.of g.met.M.TaskMachine.lawful (λ m. g.M.TaskMachine.reads (g.M.TaskMachine.names m))
    g.met.M.TaskMachine.readers
    c.args.self.now.pipes.items c.args.self.now.machines.items c.args.self.now.queues.items c.requires.net c.args.task
    c.requires.task c.index_mut-machine.result.now c.hand.new.self c.index_mut-machine.ensures.value
    c.hand.ensures.same c.args.pipe c.args.port c.requires.there c.index_mut-queue.result.now c.give.new.self
    c.index_mut-queue.ensures.value
    c.give.ensures.store

pub returns-clause-moved : goal.returns-clause-moved
returns-clause-moved g c = λ ok.
    give_moves g.M.TaskMachine.of g.met.M.TaskMachine.lawful (λ m. g.M.TaskMachine.reads (g.M.TaskMachine.names m))
    g.met.M.TaskMachine.readers
    c.args.self.now.pipes.items c.args.self.now.machines.items c.args.self.now.queues.items c.requires.net c.args.task
    c.requires.task c.index_mut-machine.result.now c.hand.new.self c.index_mut-machine.ensures.value
    c.hand.ensures.same c.args.pipe c.args.port c.requires.there c.index_mut-queue.result.now c.give.new.self
    c.index_mut-queue.ensures.value
    c.in_ok-message.message
    (ap g.M.TaskMachine.of.wanted c.index_mut-machine.ensures.value ∙ c.requires.wants c.index_mut-machine.result.now)
    (room_read c.args.self.now.pipes.items c.args.self.now.queues.items c.args.task c.args.pipe c.args.port
    c.index_mut-queue.result.now c.index.result.now c.requires.net.count c.requires.there
    c.index_mut-queue.ensures.value
    c.index.ensures (sym c.is_full.ensures ∙ c.if-is_full.false)) c.in_ok-give.ensures.ok c.in_ok-message.ensures.gives

pub returns-clause-net : goal.returns-clause-net
returns-clause-net g c =
    give_kept g.M.TaskMachine.of g.met.M.TaskMachine.lawful (λ m. g.M.TaskMachine.reads (g.M.TaskMachine.names m))
    g.met.M.TaskMachine.readers
    c.args.self.now.pipes.items c.args.self.now.machines.items c.args.self.now.queues.items c.requires.net c.args.task
    c.requires.task c.index_mut-machine.result.now c.hand.new.self c.index_mut-machine.ensures.value
    c.hand.ensures.same c.args.pipe c.args.port c.requires.there c.index_mut-queue.result.now c.give.new.self
    c.index_mut-queue.ensures.value
    c.give.ensures.store
