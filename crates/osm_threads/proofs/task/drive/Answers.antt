use Rattle.std.proofs.Common.{refl, ◌∙◌}
use Rattle.osm_threads.proofs.TaskLemmas.{left_gave, left_kept, left_pulled, left_took, work_gave, work_pulled, work_took}
use Rattle.osm_threads.proofs.task.drive.Goals as goal

pub loop-preserved-in-Ok : goal.loop-preserved-in-Ok
loop-preserved-in-Ok g c =
    let i = c.loop.invariant in
    let pulled = c.in-Ok.ensures in
    record {
      work = work_pulled g.M.TaskMachine.of c.args.machine.now c.loop.machine c.pull.new.self c.loop.ports i.work
          pulled.same pulled.pulls;
      pipes = i.pipes;
      same = pulled.same ∙ i.same;
      named = pulled.names ∙ i.named;
    }

pub returns-in-Err-clause-left_off : goal.returns-in-Err-clause-left_off
returns-in-Err-clause-left_off g c = λ no.
    left_pulled g.M.TaskMachine.of c.args.machine.now c.loop.machine c.pull.new.self c.loop.ports
    c.loop.invariant.work c.in-Err.ensures.stops

pub loop-preserved : goal.loop-preserved
loop-preserved g c =
    let i = c.loop.invariant in
    let taken = c.take_at-message in
    let took = c.in-Ok-accept.ensures in
    record {
      work = work_took g.M.TaskMachine.of c.args.machine.now c.loop.machine c.accept.new.self c.loop.ports
          (record { inlets = taken.new.inlets; outlets = c.loop.ports.outlets }) c.in-Take.port taken.result i.work
          took.same taken.ensures.pipes taken.ensures.taken refl took.takes;
      pipes = record { inlets = taken.ensures.pipes ∙ i.pipes.inlets; outlets = i.pipes.outlets };
      same = took.same ∙ i.same;
      named = took.names ∙ i.named;
    }

pub returns-in-Err-accept-clause-left_off : goal.returns-in-Err-accept-clause-left_off
returns-in-Err-accept-clause-left_off g c = λ no.
    let taken = c.take_at-message in
    left_took g.M.TaskMachine.of c.args.machine.now c.loop.machine c.accept.new.self c.loop.ports
    (record { inlets = taken.new.inlets; outlets = c.loop.ports.outlets }) c.in-Take.port taken.result
    c.loop.invariant.work taken.ensures.taken refl c.in-Err-accept.ensures.stops

pub loop-preserved-then-give_at : goal.loop-preserved-then-give_at
loop-preserved-then-give_at g c =
    let i = c.loop.invariant in
    let given = c.give_at in
    let gave = c.in-Ok-hand.ensures in
    record {
      work = work_gave g.M.TaskMachine.of c.args.machine.now c.loop.machine c.hand.new.self c.loop.ports
          (record { inlets = c.loop.ports.inlets; outlets = given.new.outlets }) c.in-Give.port c.in-Ok-hand.message
          i.work gave.same given.ensures.pipes (given.ensures.given c.if-give_at.true) refl gave.gives;
      pipes = record { inlets = i.pipes.inlets; outlets = given.ensures.pipes ∙ i.pipes.outlets };
      same = gave.same ∙ i.same;
      named = gave.names ∙ i.named;
    }

pub returns-in-Ok-hand-clause-left_off : goal.returns-in-Ok-hand-clause-left_off
returns-in-Ok-hand-clause-left_off g c = λ no.
    let given = c.give_at in
    left_kept g.M.TaskMachine.of g.met.M.TaskMachine.lawful c.args.machine.now c.loop.machine c.hand.new.self
    c.loop.ports (record { inlets = c.loop.ports.inlets; outlets = given.new.outlets }) c.in-Give.port
    c.in-Ok-hand.message c.loop.invariant.work (given.ensures.same c.if-give_at.false) refl
    c.in-Ok-hand.ensures.gives

pub returns-in-Err-hand-clause-left_off : goal.returns-in-Err-hand-clause-left_off
returns-in-Err-hand-clause-left_off g c = λ no.
    left_gave g.M.TaskMachine.of c.args.machine.now c.loop.machine c.hand.new.self c.loop.ports
    c.loop.invariant.work c.in-Err-hand.ensures.stops
