use Rattle.std.proofs.Common.{Ok, ap, arith, subst, sym, true, ◌∙◌}
use Rattle.osm_net.specs.Networks.{IsStuck, RanOn}
use Rattle.osm_net.proofs.CallLemmas.{on_err}
use Rattle.osm_net.proofs.RanLemmas.{ran_step, same_more, some_still, stopped_more, stopped_now, stuck_is}
use Rattle.osm_net.proofs.net.Net.turn.Goals as goal

pub step-requires-clause-stands : goal.step-requires-clause-stands
step-requires-clause-stands g c = some_still g.M.TaskMachine.of g.M.TaskMachine.names g.M.TaskMachine.reads
    c.args.self.now c.loop-turn.self c.args.steps.now c.loop-turn.steps c.loop-turn.invariant.0.went c.requires.stands

pub returns-in_err-stepped-clause-stopped : goal.returns-in_err-stepped-clause-stopped
returns-in_err-stepped-clause-stopped g c = on_err c.from_residual.result
    (stopped_more g.M.TaskMachine.of g.M.TaskMachine.names g.M.TaskMachine.reads c.args.self.now
    c.loop-turn.self c.step.new.self c.args.steps.now c.loop-turn.steps c.loop-turn.steps c.loop-turn.invariant.1.0
    c.loop-turn.invariant.0.went
    (stopped_now g.M.TaskMachine.of g.M.TaskMachine.names g.M.TaskMachine.reads c.loop-turn.self
    c.step.new.self c.loop-turn.steps c.in_err-stepped.ensures.stopped))

pub returns-in_default : goal.returns-in_default
returns-in_default g c =
    let still = c.in_ok-stepped.ensures.still c.in_default.not-Moved in
    record {
      ran = subst (λ n. RanOn g.M.TaskMachine.of (λ m. g.M.TaskMachine.reads (g.M.TaskMachine.names m))
          c.args.self.now n c.args.steps.now c.loop-turn.steps c.loop-turn.moved) (sym still) c.loop-turn.invariant.0;
      stuck = λ is. subst (λ n. IsStuck g.M.TaskMachine.of n c.args.task) (sym still)
          (stuck_is g.M.TaskMachine.of c.loop-turn.self c.args.task c.in_ok-stepped.stepped c.in_default.not-Moved
          c.in_ok-stepped.ensures.says);
      stopped = tt;
      same = same_more g.M.TaskMachine.of g.M.TaskMachine.names g.M.TaskMachine.reads
          c.args.self.now c.loop-turn.self c.step.new.self c.loop-turn.invariant.1.0 c.step.ensures.same;
    }

pub loop-turn-preserved : goal.loop-turn-preserved
loop-turn-preserved g c = (
  subst (λ n. RanOn g.M.TaskMachine.of (λ m. g.M.TaskMachine.reads (g.M.TaskMachine.names m))
      c.args.self.now c.step.new.self c.args.steps.now n true) (sym c.tick.ensures)
      (ran_step g.M.TaskMachine.of g.M.TaskMachine.names g.M.TaskMachine.reads c.args.task c.args.self.now
      c.loop-turn.self c.step.new.self c.args.steps.now c.loop-turn.steps c.loop-turn.moved
      c.loop-turn.invariant.1.0 c.loop-turn.invariant.0
      (c.step.ensures.moved (c.in_ok-stepped.was ∙ ap Ok c.in-Moved.is))),
  (
    same_more g.M.TaskMachine.of g.M.TaskMachine.names g.M.TaskMachine.reads c.args.self.now
        c.loop-turn.self c.step.new.self c.loop-turn.invariant.1.0 c.step.ensures.same,
    λ is. cc,
  ),
)

pub returns-clause-stuck : goal.returns-clause-stuck
returns-clause-stuck g c = λ is. absurd (omega (arith, c.loop-turn.invariant.1.1 is))
