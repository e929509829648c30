use Rattle.std.proofs.Common.{[], ◌∷◌, ◌∙◌, ap, refl}
use Rattle.osm_opl_line.specs.Line.{Skipped, Good, Bad, opl_line}
use Rattle.osm_entity.specs.declared.verdict.Cause.TheVariants.{LineTooLong}
use Rattle.osm_opl.specs.Passing.{unread_past}
use Rattle.osm_opl.specs.Unread.{first_line}
use Rattle.osm_opl.proofs.KeepingLemmas.{same_line}
use Rattle.osm_opl.proofs.StandingLemmas.{OnErr-always, gave_line, gave_more, gave_none, gave_verdict}
use Rattle.osm_opl.proofs.reading.OplReader.next.Goals as goal

pub returns-in-Item-clause-some : goal.returns-in-Item-clause-some
returns-in-Item-clause-some c =
    let finds = rw c.in-Line.is at c.in_ok-count.ensures.found in
    let says = rw c.in-Item.is at c.in_ok-item-in-Line.ensures in
    let takes =
    finds.takes (Good c.in-Item.item)
    (says ∙ ap (opl_line c.self.inside.flow) c.line.ensures
    ∙ ap (λ r. opl_line r.flow (first_line r.unread c.in-Line.count)) c.self.view_is) in
    gave_line c.args.self.now c.loop-self.self (unread_past c.find_line.new.self c.in-Line.past) c.pass.new.self
    (Good c.in-Item.item) (c.in-Item.item ∷ []) (c.is_running.ensures.runs.0 c.loop-self-test.true)
    c.loop-self.invariant.gave takes c.pass.ensures refl

pub loop-self-preserved-in-Skipped : goal.loop-self-preserved-in-Skipped
loop-self-preserved-in-Skipped c =
    let finds = rw c.in-Line.is at c.in_ok-count.ensures.found in
    let says = rw c.in-Skipped.is at c.in_ok-item-in-Line.ensures in
    let takes =
    finds.takes Skipped
    (says ∙ ap (opl_line c.self.inside.flow) c.line.ensures
    ∙ ap (λ r. opl_line r.flow (first_line r.unread c.in-Line.count)) c.self.view_is) in
    let mid = unread_past c.find_line.new.self c.in-Line.past in
    let new = c.pass-in-Skipped.new.self in
    let runs = c.is_running.ensures.runs.0 c.loop-self-test.true in
    let was = c.loop-self.invariant in
    record {
      same = same_line c.args.self.now c.loop-self.self mid new Skipped was.same takes c.pass-in-Skipped.ensures;
      gave = gave_line c.args.self.now c.loop-self.self mid new Skipped [] runs was.gave takes
          c.pass-in-Skipped.ensures refl;
      ran = λ _. was.ran runs;
    }

pub loop-self-preserved-in-Bad : goal.loop-self-preserved-in-Bad
loop-self-preserved-in-Bad c =
    let finds = rw c.in-Line.is at c.in_ok-count.ensures.found in
    let says = rw c.in-Bad.is at c.in_ok-item-in-Line.ensures in
    let value = Bad c.in-Bad.cause in
    let takes =
    finds.takes value
    (says ∙ ap (opl_line c.self.inside.flow) c.line.ensures
    ∙ ap (λ r. opl_line r.flow (first_line r.unread c.in-Line.count)) c.self.view_is) in
    let mid = unread_past c.find_line.new.self c.in-Line.past in
    let runs = c.is_running.ensures.runs.0 c.loop-self-test.true in
    let was = c.loop-self.invariant in
    record {
      same = same_line c.args.self.now c.loop-self.self mid c.fail.new.self value was.same takes c.fail.ensures;
      gave = gave_line c.args.self.now c.loop-self.self mid c.fail.new.self value [] runs was.gave takes c.fail.ensures
          refl;
      ran = λ _. was.ran runs;
    }

pub loop-self-preserved : goal.loop-self-preserved
loop-self-preserved c =
    let finds = rw c.in-TooLong.is at c.in_ok-count.ensures.found in
    let value = Bad LineTooLong in
    let mid = unread_past c.find_line.new.self c.in-TooLong.past in
    let new = c.fail-in-TooLong.new.self in
    let runs = c.is_running.ensures.runs.0 c.loop-self-test.true in
    let was = c.loop-self.invariant in
    record {
      same = same_line c.args.self.now c.loop-self.self mid new value was.same finds.takes c.fail-in-TooLong.ensures;
      gave = gave_line c.args.self.now c.loop-self.self mid new value [] runs was.gave finds.takes
          c.fail-in-TooLong.ensures refl;
      ran = λ _. was.ran runs;
    }

pub returns-in-Unfinished-clause-none : goal.returns-in-Unfinished-clause-none
returns-in-Unfinished-clause-none c =
    let last = rw c.in-Unfinished.is at c.in_ok-count.ensures.found in
    gave_more c.args.self.now c.loop-self.self c.settle.new.self [] [] c.loop-self.invariant.gave
    (gave_verdict c.loop-self.self c.find_line.new.self c.settle.new.self
    (c.is_running.ensures.runs.0 c.loop-self-test.true) last c.settle.ensures)

pub returns-in_err-count-clause-err : goal.returns-in_err-count-clause-err
returns-in_err-count-clause-err c =
    OnErr-always c.from_residual.result
    (gave_more c.args.self.now c.loop-self.self c.find_line.new.self [] [] c.loop-self.invariant.gave
    (gave_none c.loop-self.self c.find_line.new.self c.in_err-count.ensures.err))

pub returns-in_err-item-in-Line-clause-err : goal.returns-in_err-item-in-Line-clause-err
returns-in_err-item-in-Line-clause-err c =
    let finds = rw c.in-Line.is at c.in_ok-count.ensures.found in
    OnErr-always c.from_residual-in_err-item-in-Line.result
    (gave_more c.args.self.now c.loop-self.self c.find_line.new.self [] [] c.loop-self.invariant.gave
    (gave_none c.loop-self.self c.find_line.new.self finds.same))
