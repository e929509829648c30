use Rattle.std.proofs.Common.{◌≡◌, drop, length}
use Rattle.osm_graph.specs.Joining.{pipes_from}
use Rattle.osm_graph.proofs.StepLemmas.{after_pipes}
use Rattle.osm_graph.proofs.joining.pipes_of.Given as goal

abbrev pub invariant-loop-place : goal.invariant-loop-place
invariant-loop-place l =
    pipes_from l.readers 0 0 l.ports ≡
    after_pipes l.pipes (pipes_from l.readers l.place (length l.pipes) (drop l.place l.ports))
