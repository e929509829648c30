use Rattle.std.proofs.Common.{ap, sym, ◌∙◌}
use Rattle.std.proofs.lemmas.List.{nil_from_length}
use Rattle.osm_threads.specs.Running.{ports_started}
use Rattle.osm_threads.proofs.gates.+line_up.Goals as goal

pub returns-in-None-clause-ports : goal.returns-in-None-clause-ports
returns-in-None-clause-ports g t c =
    let none = nil_from_length c.args.tasks.now.items (sym c.args.tasks.now.ok.0 ∙ c.requires.tasks ∙ c.in-None.ensures.cases.0) in
    ap ports_started c.requires.none ∙ sym none

pub returns-in-None-clause-no_ports : goal.returns-in-None-clause-no_ports
returns-in-None-clause-no_ports g t c =
    nil_from_length c.args.tasks.now.items (sym c.args.tasks.now.ok.0 ∙ c.requires.tasks ∙ c.in-None.ensures.cases.0)
