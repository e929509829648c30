use Rattle.std.proofs.Common.{subst, sym}
use Rattle.osm_net.specs.Nets.{HasNoBareCircle}
use Rattle.osm_net.proofs.AloneLemmas.{all_stuck}
use Rattle.osm_net.proofs.CallLemmas.{on_err}
use Rattle.osm_net.proofs.RanLemmas.{counted_more, same_more, some_still, stopped_more}
use Rattle.osm_net.proofs.net.Net.run_alone.Goals as goal

pub round-requires : goal.round-requires
round-requires g c = record {
  stands = some_still g.M.TaskMachine.of g.M.TaskMachine.names g.M.TaskMachine.reads c.args.self.now c.loop-moved.self
      c.args.steps.now c.loop-moved.steps c.loop-moved.invariant.0 c.requires.stands;
}

pub returns-in_err-moved-clause-stopped : goal.returns-in_err-moved-clause-stopped
returns-in_err-moved-clause-stopped g c = on_err c.from_residual.result
    (stopped_more g.M.TaskMachine.of g.M.TaskMachine.names g.M.TaskMachine.reads c.args.self.now
    c.loop-moved.self c.round.new.self c.args.steps.now c.loop-moved.steps c.round.new.steps c.loop-moved.invariant.1
    c.loop-moved.invariant.0 c.in_err-moved.ensures.stopped)

pub returns-then-not-moved-clause-ended : goal.returns-then-not-moved-clause-ended
returns-then-not-moved-clause-ended g c =
    let went = counted_more g.M.TaskMachine.of g.M.TaskMachine.names g.M.TaskMachine.reads c.args.self.now
    c.loop-moved.self c.round.new.self c.args.steps.now c.loop-moved.steps c.round.new.steps c.loop-moved.invariant.1
    c.loop-moved.invariant.0 c.in_ok-moved.ensures.ran.went in
    let same = same_more g.M.TaskMachine.of g.M.TaskMachine.names g.M.TaskMachine.reads c.args.self.now
    c.loop-moved.self c.round.new.self c.loop-moved.invariant.1 c.round.ensures.same in
    all_stuck g.M.TaskMachine.of g.met.M.TaskMachine.lawful c.round.new.self c.kept.ensures
    (subst HasNoBareCircle (sym same.pipes) c.requires.circle)
    (some_still g.M.TaskMachine.of g.M.TaskMachine.names g.M.TaskMachine.reads c.args.self.now
    c.round.new.self c.args.steps.now c.round.new.steps went c.requires.stands)
    (c.in_ok-moved.ensures.stuck c.if-not-moved.true)

pub returns-then-not-moved-clause-went : goal.returns-then-not-moved-clause-went
returns-then-not-moved-clause-went g c = counted_more g.M.TaskMachine.of g.M.TaskMachine.names g.M.TaskMachine.reads
    c.args.self.now c.loop-moved.self c.round.new.self c.args.steps.now c.loop-moved.steps c.round.new.steps
    c.loop-moved.invariant.1
    c.loop-moved.invariant.0 c.in_ok-moved.ensures.ran.went

pub loop-moved-preserved : goal.loop-moved-preserved
loop-moved-preserved g c = (
  counted_more g.M.TaskMachine.of g.M.TaskMachine.names g.M.TaskMachine.reads c.args.self.now c.loop-moved.self
      c.round.new.self c.args.steps.now c.loop-moved.steps c.round.new.steps c.loop-moved.invariant.1
      c.loop-moved.invariant.0
      c.in_ok-moved.ensures.ran.went,
  same_more g.M.TaskMachine.of g.M.TaskMachine.names g.M.TaskMachine.reads c.args.self.now c.loop-moved.self
      c.round.new.self c.loop-moved.invariant.1 c.round.ensures.same,
)
