use Rattle.osm_net.proofs.ProgressLemmas.{goes_on}
use Rattle.osm_net.proofs.laws.a_network_without_a_bare_circle_goes_on.Goals as goal

pub returns : goal.returns
returns g c = λ tasks pipes machine queue h graph holds none net. goes_on g.M.TaskMachine.of g.met.M.TaskMachine.lawful
    tasks pipes machine queue h graph holds net none
