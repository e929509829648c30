use Rattle.std.proofs.Common.{sym, ap, ◌∙◌}
use Rattle.osm_report.specs.Lines.{fault_text}
use Rattle.osm_report.specs.declared.fault.Fault.{Fault}
use Rattle.osm_report.proofs.telling.line.Goals as goal

pub returns-in-TooLong : goal.returns-in-TooLong
returns-in-TooLong c = c.at_task.ensures ∙ ap (λ (f : Fault). fault_text f) (sym c.in-TooLong.is)
