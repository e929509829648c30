use Rattle.osm_threads.proofs.UnmovedLemmas.{none_run}
use Rattle.osm_threads.proofs.running.finish_none.Goals as goal

pub returns-clause-run : goal.returns-clause-run
returns-clause-run g c = none_run g.M.TaskMachine.of g.met.M.TaskMachine.lawful c.args.pipes.now c.args.machines.items
    c.requires.tasks c.requires.none
