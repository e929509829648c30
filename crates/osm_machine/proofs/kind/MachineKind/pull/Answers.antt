use Rattle.osm_machine.specs.Reading.{reading}
use Rattle.osm_machine.specs.MachineKinds.{machines}
use Rattle.osm_machine.specs.declared.kind.MachineKind.TheVariants.{Read}
use Rattle.osm_machine.proofs.MachineParts.{read_part}
use Rattle.osm_machine.proofs.ResultLemmas.{OnErr-weaker, OnOk-weaker}
use Rattle.osm_machine.proofs.SumLemmas.{part_pulls, part_stops_in_pull}
use Rattle.osm_machine.proofs.kind.MachineKind.pull.Goals as goal

pub returns-clause-pulls : goal.returns-clause-pulls
returns-clause-pulls g c = rw c.in-Read.is (OnOk-weaker c.pull.result
    (λ pulls. part_pulls reading machines Read read_part _ _ pulls) c.pull.ensures.pulls)

pub returns-clause-stops : goal.returns-clause-stops
returns-clause-stops g c = rw c.in-Read.is (OnErr-weaker c.pull.result
    (λ stops. part_stops_in_pull reading machines Read read_part _ _ stops) c.pull.ensures.stops)
