use Rattle.std.proofs.Common.{◌≡◌, ◌++◌, [], take, drop}
use Rattle.osm_graph.specs.Joining.{ports_fault, readers_of}
use Rattle.osm_graph.proofs.joining.readers_of.Given as goal

abbrev pub invariant-loop-place : goal.invariant-loop-place
invariant-loop-place l = record {
  fine : ports_fault [] l.ports ≡ ports_fault (take l.place l.ports) (drop l.place l.ports);
  readers : readers_of [] l.ports ≡ l.readers ++ readers_of (take l.place l.ports) (drop l.place l.ports);
}
