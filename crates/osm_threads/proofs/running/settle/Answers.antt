use Rattle.std.proofs.Common.{arith, true, vec_len}
use Rattle.osm_threads.proofs.BackLemmas.{names_back}
use Rattle.osm_threads.proofs.RunLemmas.{apart_back, may_meet_of, settled}
use Rattle.osm_threads.proofs.UnmovedLemmas.{first_of}
use Rattle.osm_threads.proofs.running.settle.Goals as goal

pub meet_all-requires-clause-apart : goal.meet_all-requires-clause-apart
meet_all-requires-clause-apart g c =
    let starts = c.args.starts.value.items in
    let some = c.requires.some in
    let long = c.args.starts.value.ok.0 in
    apart_back g.M.TaskMachine.of g.met.M.TaskMachine.lawful g.M.TaskMachine.names c.args.pipes.now starts
    c.args.backs.value.items c.requires.backs c.requires.new c.requires.joined (first_of starts (omega (arith, some, long)))
    c.args.tasks.items (vec_len c.args.tasks) c.args.tasks.ok.0 c.requires.tasks

pub meet_all-requires-clause-may : goal.meet_all-requires-clause-may
meet_all-requires-clause-may g c =
    let starts = c.args.starts.value.items in
    let some = c.requires.some in
    let long = c.args.starts.value.ok.0 in
    may_meet_of g.M.TaskMachine.of g.met.M.TaskMachine.lawful g.M.TaskMachine.names c.args.pipes.now starts
    c.args.backs.value.items c.requires.backs c.requires.new c.requires.joined (first_of starts (omega (arith, some, long)))
    c.args.tasks.items c.requires.tasks

pub returns-clause-run : goal.returns-clause-run
returns-clause-run g c =
    settled g.M.TaskMachine.of g.met.M.TaskMachine.lawful g.M.TaskMachine.names c.args.pipes.now
    c.args.starts.value.items c.args.backs.value.items c.requires.backs c.requires.new c.requires.joined
    c.args.tasks.items c.args.finished.machines.items c.args.finished.memory c.requires.tasks c.requires.machines
    c.requires.memory c.meet_all.ensures

pub returns-clause-names : goal.returns-clause-names
returns-clause-names g c = names_back g.M.TaskMachine.of g.M.TaskMachine.names true c.args.starts.value.items
    c.args.backs.value.items c.args.finished.machines.items c.requires.backs c.requires.machines
