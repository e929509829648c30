use Rattle.std.proofs.Common.{◌∙◌, ap}
use Rattle.osm_made.specs.Summaries.{summary_lines}
use Rattle.osm_made.proofs.SummaryLemmas.{summary_lines-appended}
use Rattle.osm_made.proofs.summing.Summary.text.Goals as goal

pub returns-clause-lines : goal.returns-clause-lines
returns-clause-lines c =
    summary_lines-appended c.args.self.now _ _ _ _ _ _ _ c.in_ok-text.text c.append_line.new.text
    c.append_line-2.new.text c.append_line-3.new.text c.append_line-4.new.text c.append_line-5.new.text
    c.append_line-6.new.text c.append_line-7.new.text c.self.view_is c.in_ok-text.ensures c.in_ok-append_line.ensures
    c.in_ok-append_line-2.ensures c.in_ok-append_line-3.ensures c.in_ok-append_line-4.ensures
    c.in_ok-append_line-5.ensures c.in_ok-append_line-6.ensures c.in_ok-append_line-7.ensures

pub returns-clause-value : goal.returns-clause-value
returns-clause-value c = λ items stands. returns-clause-lines c ∙ ap summary_lines stands.summed
