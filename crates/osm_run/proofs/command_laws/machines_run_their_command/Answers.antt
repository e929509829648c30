use Rattle.osm_run.proofs.MachineTaskLemmas.{machines_are_tasks}
use Rattle.osm_run.proofs.WentLemmas.{counted_tasks_have_run, tasks_have_run}
use Rattle.osm_run.proofs.command_laws.machines_run_their_command.Goals as goal

pub returns-clause-tasks : goal.returns-clause-tasks
returns-clause-tasks g c = machines_are_tasks

pub returns-clause-run : goal.returns-clause-run
returns-clause-run g c = tasks_have_run

pub returns-clause-counted : goal.returns-clause-counted
returns-clause-counted g c = counted_tasks_have_run
