use Rattle.osm_threads.proofs.TaskLemmas.{ready_work}
use Rattle.osm_threads.proofs.homing.run_task.Goals as goal

pub work-whole-requires : goal.work-whole-requires
work-whole-requires g c = ready_work g.M.TaskMachine.of c.args.job c.requires
