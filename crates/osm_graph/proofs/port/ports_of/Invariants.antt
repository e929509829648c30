use Rattle.std.proofs.Common.{◌≡◌, ◌++◌, drop}
use Rattle.std.specs.List.{AllWithin}
use Rattle.osm_tasks.specs.Tasks.{IsTask}
use Rattle.osm_graph.specs.Ports.{ports_from, ports_of}
use Rattle.osm_graph.proofs.port.ports_of.Given as goal

abbrev pub invariant-loop-at : goal.invariant-loop-at
invariant-loop-at l = record {
  ports : ports_of l.tasks ≡ l.ports ++ ports_from l.at (drop l.at l.tasks);
  kept : AllWithin IsTask l.tasks 0 l.at;
}
