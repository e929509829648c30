use Rattle.osm_net.proofs.RunLemmas.{behind_before, ended_run, ended_whole, standing_behind, stopped_run}
use Rattle.osm_net.proofs.laws.machines_do_what_is_meant.Goals as goal

pub returns : goal.returns
returns g c = record {
  stand = λ tasks pipes machine h graph. standing_behind g.M.TaskMachine.of g.met.M.TaskMachine.lawful tasks pipes
      machine graph h;
  so_far = λ tasks pipes machine h streams graph are. behind_before g.M.TaskMachine.of g.met.M.TaskMachine.lawful
      tasks pipes machine graph h are streams;
  ended = λ tasks pipes machine h streams graph standing all. ended_whole g.M.TaskMachine.of
      g.met.M.TaskMachine.lawful tasks pipes machine graph h standing all streams;
  run = λ tasks pipes machine h graph standing all. ended_run g.M.TaskMachine.of g.met.M.TaskMachine.lawful tasks
      pipes machine graph h standing all;
  memory = λ tasks pipes machine h graph. stopped_run g.M.TaskMachine.of g.met.M.TaskMachine.lawful tasks pipes
      machine graph h;
}
