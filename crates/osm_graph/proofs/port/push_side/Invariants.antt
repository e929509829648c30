use Rattle.std.proofs.Common.{◌≡◌, ◌++◌, drop}
use Rattle.osm_graph.specs.Ports.{side_ports}
use Rattle.osm_graph.proofs.port.push_side.Given as goal

abbrev pub invariant-loop-at : goal.invariant-loop-at
invariant-loop-at l =
    l.initial.ports ++ side_ports l.task l.kind l.gives 0 l.names ≡
    l.ports ++ side_ports l.task l.kind l.gives l.at (drop l.at l.names)
