use Rattle.std.proofs.Common.{◌≡◌, ℕ, ◌-◌, sym, subst, ◌∙◌}
use Rattle.osm_host.specs.Moments.{Moment, moment}
use Rattle.osm_net.specs.Nets.{CanHold, HasNoBareCircle}
use Rattle.osm_run.specs.Asked.{graph_asked}
use Rattle.osm_run.specs.Commands.{AreTasksKept}
use Rattle.osm_run.proofs.AskedLemmas.{command_run}
use Rattle.osm_run.proofs.FinishedLemmas.{finished_counted, ready_machines}
use Rattle.osm_run.proofs.MachineTaskLemmas.{pipes_can_hold}
use Rattle.osm_run.proofs.running.run_prepared_alone.Goals as goal

pub run_tasks_alone-finished-requires-clause-tasks : goal.run_tasks_alone-finished-requires-clause-tasks
run_tasks_alone-finished-requires-clause-tasks g c =
    let same : c.as_slice-tasks.result.now ≡ c.args.prepared.graph.tasks = c.as_slice-tasks.ensures ∙ c.tasks-all.ensures in
    ready_machines c.args.prepared.graph c.requires.1 _ _ _ _ c.kept.ensures c.requires.2.ready _ c.as_pipes-pipes.ensures
    (subst AreTasksKept same c.tasks_kept.ensures)

pub run_tasks_alone-finished-requires-clause-holds : goal.run_tasks_alone-finished-requires-clause-holds
run_tasks_alone-finished-requires-clause-holds g c =
    subst CanHold (sym c.as_pipes-pipes.ensures) (pipes_can_hold c.args.prepared.graph c.kept.ensures)

pub run_tasks_alone-finished-requires-clause-circle : goal.run_tasks_alone-finished-requires-clause-circle
run_tasks_alone-finished-requires-clause-circle g c =
    subst HasNoBareCircle (sym c.as_pipes-pipes.ensures) c.requires.2.bare

pub conclude-requires-after_bounds : goal.conclude-requires-after_bounds
conclude-requires-after_bounds g c κs within =
    let steps : ℕ = c.run_tasks_alone-finished.new.steps - c.args.steps.now in (
      c.requires.1,
      steps,
      finished_counted c.args.prepared.graph c.requires.1 _ _ _ _ c.kept.ensures c.requires.2.ready _
          c.as_pipes-pipes.ensures _ _ c.run_tasks_alone-finished.ensures.names steps
          c.run_tasks_alone-finished.ensures.run,
    )

pub returns-clause-run : goal.returns-clause-run
returns-clause-run g c = λ words before prepared.
    let now : Moment = moment g.H.Host.files g.H.Host.said g.H.Host.mute g.H.Host.count g.H.Host.gave g.H.Host.known
    c.conclude.new.host in
    let steps : ℕ = c.run_tasks_alone-finished.new.steps - c.args.steps.now in
    command_run (graph_asked words) c.args.prepared.graph before now c.conclude.result steps prepared.asked prepared.bare
    (c.conclude.ensures.run before steps
    (finished_counted c.args.prepared.graph before _ _ _ _ c.kept.ensures prepared.ready _ c.as_pipes-pipes.ensures _ _
    c.run_tasks_alone-finished.ensures.names steps c.run_tasks_alone-finished.ensures.run))
