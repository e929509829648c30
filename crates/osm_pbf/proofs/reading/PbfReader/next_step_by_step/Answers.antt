use Rattle.std.proofs.Common.{Ok, subst}
use Rattle.osm_pbf.specs.Steps.{AnswersStep}
use Rattle.osm_pbf.proofs.StandingLemmas.{gave_bad, gave_rest}
use Rattle.osm_pbf.proofs.reading.PbfReader.next_step_by_step.Goals as goal

pub returns-then-not-branch-clause-none : goal.returns-then-not-branch-clause-none
returns-then-not-branch-clause-none c =
    let none = rw c.in-Ok-None.field-0-is at c.in-Ok-None.ensures.answers in
    gave_rest c.args.self.now c.loop-self.self c.take_item.new.self c.take_frame.new.self c.settle.new.self
    c.loop-self.invariant none.0 none.1 c.take_item.ensures.same (c.is_running.ensures.0 c.loop-self-test.true)
    (subst (λ b. AnswersStep c.take_item.new.self c.take_frame.new.self (Ok b)) c.if-not-branch.true
    c.in_ok-take_frame-in-Ok-None.ensures) c.settle.ensures

pub returns-in-Err-Bad-clause-none : goal.returns-in-Err-Bad-clause-none
returns-in-Err-Bad-clause-none c =
    let bad = rw c.in-Err-Bad.field-0-is at c.in-Err-Bad.ensures.answers in
    gave_bad c.args.self.now c.loop-self.self c.take_item.new.self c.blame.new.self c.in-Err-Bad.cause
    c.loop-self.invariant bad.0 bad.1 c.take_item.ensures.same (c.is_running.ensures.0 c.loop-self-test.true)
    c.blame.ensures
