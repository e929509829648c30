use Rattle.std.proofs.Common.{subst, sym, ◌∙◌}
use Rattle.osm_net.specs.Networks.{RanOn}
use Rattle.osm_net.proofs.CallLemmas.{on_err}
use Rattle.osm_net.proofs.RanLemmas.{ran_more, same_more, some_still, stopped_more, stuck_more}
use Rattle.osm_net.proofs.net.Net.round.Goals as goal

pub turn-requires-clause-stands : goal.turn-requires-clause-stands
turn-requires-clause-stands g c = some_still g.M.TaskMachine.of g.M.TaskMachine.names g.M.TaskMachine.reads
    c.args.self.now c.loop-task.self c.args.steps.now c.loop-task.steps c.loop-task.invariant.0.went c.requires.stands

pub returns-in_err-went-clause-stopped : goal.returns-in_err-went-clause-stopped
returns-in_err-went-clause-stopped g c = on_err c.from_residual.result
    (stopped_more g.M.TaskMachine.of g.M.TaskMachine.names g.M.TaskMachine.reads c.args.self.now
    c.loop-task.self c.turn.new.self c.args.steps.now c.loop-task.steps c.turn.new.steps c.loop-task.invariant.1.0
    c.loop-task.invariant.0.went c.in_err-went.ensures.stopped)

pub loop-task-preserved : goal.loop-task-preserved
loop-task-preserved g c = (
  subst (RanOn g.M.TaskMachine.of (λ m. g.M.TaskMachine.reads (g.M.TaskMachine.names m)) c.args.self.now
      c.turn.new.self c.args.steps.now c.turn.new.steps) (sym c.either-moved.ensures)
      (ran_more g.M.TaskMachine.of g.M.TaskMachine.names g.M.TaskMachine.reads c.args.self.now
      c.loop-task.self c.turn.new.self c.args.steps.now c.loop-task.steps c.turn.new.steps c.loop-task.moved
      c.in_ok-went.went c.loop-task.invariant.1.0 c.loop-task.invariant.0 c.in_ok-went.ensures.ran),
  (
    same_more g.M.TaskMachine.of g.M.TaskMachine.names g.M.TaskMachine.reads c.args.self.now
        c.loop-task.self c.turn.new.self c.loop-task.invariant.1.0 c.turn.ensures.same,
    λ is. stuck_more g.M.TaskMachine.of c.loop-task.self c.turn.new.self c.loop-task.task c.loop-task.moved
        c.in_ok-went.went (sym c.either-moved.ensures ∙ is) c.loop-task.invariant.1.1 c.in_ok-went.ensures.ran.still
        c.in_ok-went.ensures.stuck,
  ),
)
