use Rattle.std.proofs.Common.{◌≡◌, sym, subst, ◌∙◌}
use Rattle.osm_host.specs.Moments.{Moment, moment}
use Rattle.osm_net.specs.Nets.{CanHold, HasNoBareCircle}
use Rattle.osm_run.specs.Asked.{graph_asked}
use Rattle.osm_run.specs.Commands.{AreTasksKept}
use Rattle.osm_run.proofs.AskedLemmas.{command_run}
use Rattle.osm_run.proofs.FinishedLemmas.{finished, ready_machines}
use Rattle.osm_run.proofs.MachineTaskLemmas.{pipes_can_hold}
use Rattle.osm_run.proofs.running.run_prepared.Goals as goal

pub run_tasks-finished-requires-clause-tasks : goal.run_tasks-finished-requires-clause-tasks
run_tasks-finished-requires-clause-tasks g c κs within =
    let same : c.as_slice-tasks.result.now ≡ c.args.prepared.graph.tasks = c.as_slice-tasks.ensures ∙ c.tasks-all.ensures in
    ready_machines c.args.prepared.graph c.requires.1 _ _ _ _ c.kept.ensures c.requires.2.ready _ c.as_pipes-pipes.ensures
    (subst AreTasksKept same c.tasks_kept.ensures)

pub run_tasks-finished-requires-clause-holds : goal.run_tasks-finished-requires-clause-holds
run_tasks-finished-requires-clause-holds g c κs within =
    subst CanHold (sym c.as_pipes-pipes.ensures) (pipes_can_hold c.args.prepared.graph c.kept.ensures)

pub run_tasks-finished-requires-clause-circle : goal.run_tasks-finished-requires-clause-circle
run_tasks-finished-requires-clause-circle g c κs within =
    subst HasNoBareCircle (sym c.as_pipes-pipes.ensures) c.requires.2.bare

pub conclude-requires-after_bounds : goal.conclude-requires-after_bounds
conclude-requires-after_bounds g c κs within =
    let done = finished c.args.prepared.graph c.requires.1 _ _ _ _ c.kept.ensures c.requires.2.ready _
    c.as_pipes-pipes.ensures _ _ c.run_tasks-finished.ensures.names c.run_tasks-finished.ensures.run in
    (c.requires.1, done.0, done.1)

pub returns-clause-run : goal.returns-clause-run
returns-clause-run g c = λ words before prepared.
    let now : Moment = moment g.H.Host.files g.H.Host.said g.H.Host.mute g.H.Host.count g.H.Host.gave g.H.Host.known
    c.conclude.new.host in
    let done = finished c.args.prepared.graph before _ _ _ _ c.kept.ensures prepared.ready _
    c.as_pipes-pipes.ensures _ _ c.run_tasks-finished.ensures.names c.run_tasks-finished.ensures.run in
    (command_run (graph_asked words) c.args.prepared.graph before now c.conclude.result done.0 prepared.asked
    prepared.bare (c.conclude.ensures.run before done.0 done.1)).run
