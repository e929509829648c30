use Rattle.osm_net.proofs.MoveLemmas.{gave_keeps, new_stands, pulled_keeps, took_keeps}
use Rattle.osm_net.proofs.laws.moves_keep_the_network.Goals as goal

pub returns : goal.returns
returns g c = record {
  new = new_stands g.M.TaskMachine.of;
  took = took_keeps g.M.TaskMachine.of;
  gave = λ tasks pipes machine now queue more h p m graph known elsewhere after room others wants gives net.
      gave_keeps g.M.TaskMachine.of tasks pipes machine now queue more h p m g.met.M.TaskMachine.lawful graph known
      elsewhere after room others wants gives net;
  pulled = pulled_keeps g.M.TaskMachine.of;
}
