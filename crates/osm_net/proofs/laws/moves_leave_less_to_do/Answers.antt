use Rattle.osm_net.proofs.MeasureLemmas.{gave_falls, pulled_falls, took_falls}
use Rattle.osm_net.proofs.laws.moves_leave_less_to_do.Goals as goal

pub returns : goal.returns
returns g c = record {
  took = took_falls g.M.TaskMachine.of;
  gave = gave_falls g.M.TaskMachine.of;
  pulled = pulled_falls g.M.TaskMachine.of;
}
