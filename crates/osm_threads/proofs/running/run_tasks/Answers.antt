use Rattle.std.proofs.Common.{arith, sym, vec_len, ◌∙◌}
use Rattle.osm_threads.proofs.UnmovedLemmas.{apart_new, some_by}
use Rattle.osm_threads.proofs.running.run_tasks.Goals as goal

pub make_parts-requires-clause-apart : goal.make_parts-requires-clause-apart
make_parts-requires-clause-apart g c =
    let long = c.args.machines.ok.0 in
    let some = some_by (vec_len c.args.machines) (sym c.is_empty.ensures ∙ c.if-is_empty.false) in
    apart_new g.M.TaskMachine.of c.args.pipes.now c.args.machines.items c.len.result c.requires.tasks
    (c.len.ensures ∙ long) (omega (arith, some, long))

pub run_parts-requires-clause-apart : goal.run_parts-requires-clause-apart
run_parts-requires-clause-apart g c κs within =
    let long = c.args.machines.ok.0 in
    let some = some_by (vec_len c.args.machines) (sym c.is_empty.ensures ∙ c.if-is_empty.false) in
    apart_new g.M.TaskMachine.of c.args.pipes.now c.args.machines.items (vec_len c.args.machines) c.requires.tasks
    long (omega (arith, some, long))
