use Rattle.std.proofs.Common.{rules}
use Rattle.osm_select.proofs.SelectingLemmas.{rule_holds, rule_passes}
use Rattle.osm_select.proofs.task.Course.new.Goals as goal

pub returns-then-looks_ahead-clause-rule : goal.returns-then-looks_ahead-clause-rule
returns-then-looks_ahead-clause-rule c = rw (c.new.ensures.area, c.new.ensures.complete, c.new.ensures.clip)
    (rule_holds c.args.area c.args.options (search rules))

pub returns-clause-rule : goal.returns-clause-rule
returns-clause-rule c = rw (c.new-2.ensures.area, c.new-2.ensures.clip)
    (rule_passes c.args.area c.args.options (search rules))
