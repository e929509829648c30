use Rattle.std.specs.List.{AllWithin}
use Rattle.osm_tasks.specs.Tasks.{IsTask}
use Rattle.osm_run.proofs.asking.tasks_kept.Given as goal

abbrev pub invariant-loop-task : goal.invariant-loop-task
invariant-loop-task l = AllWithin IsTask l.tasks 0 l.task-index
