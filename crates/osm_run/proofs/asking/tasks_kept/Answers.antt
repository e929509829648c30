use Rattle.std.proofs.lemmas.List.Elements.{AllWithin-more, at_read}
use Rattle.osm_tasks.specs.Tasks.{IsTask}
use Rattle.osm_run.proofs.asking.tasks_kept.Goals as goal

pub loop-task-preserved : goal.loop-task-preserved
loop-task-preserved c =
    AllWithin-more IsTask c.args.tasks.now 0 c.loop-task.task-index c.loop-task.invariant
    (at_read c.args.tasks.now IsTask c.loop-task.task-index c.task-item.result c.loop-task-test.true
    c.task-item.is c.kept.ensures)
