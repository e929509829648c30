use Rattle.std.proofs.Common.{subst, sym, vec_len, ◌∙◌}
use Rattle.osm_threads.specs.Meetings.{AreApart}
use Rattle.osm_threads.proofs.ReadyLemmas.{lined_count, lined_joined, lined_ready}
use Rattle.osm_threads.proofs.running.make_starts.Goals as goal

pub returns-clause-ready : goal.returns-clause-ready
returns-clause-ready g c =
    let line = c.line_up in
    lined_ready g.M.TaskMachine.of c.args.pipes.now line.new.starts.items c.args.machines.now.items
    c.args.tasks.now.items line.ensures.machines line.ensures.ports
    (subst (AreApart c.args.pipes.now) c.args.machines.now.ok.0 c.requires.apart) c.requires.machines c.requires.made
    line.ensures.new

pub returns-clause-joined : goal.returns-clause-joined
returns-clause-joined g c =
    let line = c.line_up in
    lined_joined g.M.TaskMachine.of c.args.pipes.now line.new.starts.items (vec_len c.args.machines.now) c.args.tasks.now.items line.ensures.ports
    c.requires.apart c.requires.made

pub returns-clause-count : goal.returns-clause-count
returns-clause-count g c =
    let line = c.line_up in
    line.new.starts.ok.0
    ∙ lined_count g.M.TaskMachine.of c.args.pipes.now line.new.starts.items c.args.machines.now.items line.ensures.machines
    ∙ sym c.args.machines.now.ok.0
