use Rattle.std.proofs.Common.{sym, ◌∙◌}
use Rattle.osm_words.proofs.StepLemmas.{from_here, options-step, faults-step, faults-end}
use Rattle.osm_words.proofs.splitting.options_of.Goals as goal

pub returns-in-Some-clause-refused : goal.returns-in-Some-clause-refused
returns-in-Some-clause-refused c _ =
    let here = from_here c.args.words.now c.loop-at.at c.index-words-at.result c.loop-at-test.true
    c.index-words-at.is in
    faults-end c.args.first c.loop-at.at c.in_ok-number.number c.args.words.now c.index-words-at.result
    c.loop-at.options _ c.in-Some.fault here (sym c.begins_task.ensures.value ∙ c.if-begins_task.false)
    c.in_ok-number.ensures.ok (rw c.as_slice.ensures at c.in-Some.ensures) c.loop-at.invariant.fault

pub loop-at-preserved : goal.loop-at-preserved
loop-at-preserved c =
    let here = from_here c.args.words.now c.loop-at.at c.index-words-at.result c.loop-at-test.true
    c.index-words-at.is in
    let other = sym c.begins_task.ensures.value ∙ c.if-begins_task.false in
    record {
      options = options-step c.args.first c.loop-at.at c.in_ok-number.number c.args.words.now c.index-words-at.result
          c.loop-at.options c.push.new.self _ c.in_ok-option.option here other c.in_ok-number.ensures.ok
          c.in_ok-option.ensures c.in_ok-push.ensures.ok c.loop-at.invariant.options;
      fault = faults-step c.args.first c.loop-at.at c.in_ok-number.number c.args.words.now c.index-words-at.result
          c.loop-at.options c.push.new.self _ c.in_ok-option.option here other c.in_ok-number.ensures.ok
          c.in_ok-option.ensures c.in_ok-push.ensures.ok (rw c.as_slice.ensures at c.in_default.ensures)
          c.loop-at.invariant.fault;
    }
