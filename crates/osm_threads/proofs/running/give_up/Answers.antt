use Rattle.osm_threads.proofs.UnmovedLemmas.{new_run}
use Rattle.osm_threads.proofs.running.give_up.Goals as goal

pub returns-clause-run : goal.returns-clause-run
returns-clause-run g c = new_run g.M.TaskMachine.of g.met.M.TaskMachine.lawful c.args.pipes.now c.args.machines.items c.requires
