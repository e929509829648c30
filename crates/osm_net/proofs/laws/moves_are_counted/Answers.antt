use Rattle.osm_net.specs.Histories.{new_history}
use Rattle.osm_net.proofs.CountLemmas.{pulls_bound, steps_ended, steps_so_far}
use Rattle.osm_net.proofs.laws.moves_are_counted.Goals as goal

pub returns : goal.returns
returns g c = record {
  ended = steps_ended g.M.TaskMachine.of g.met.M.TaskMachine.lawful;
  so_far = steps_so_far;
  pulls = λ tasks pipes made reads moves. pulls_bound tasks pipes reads (new_history made) moves;
}
