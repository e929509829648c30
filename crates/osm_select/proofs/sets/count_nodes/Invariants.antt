use Rattle.osm_select.specs.Front.{StartWithNodes}
use Rattle.osm_select.proofs.sets.count_nodes.Given as goal

abbrev pub invariant-loop-place : goal.invariant-loop-place
invariant-loop-place l = StartWithNodes l.place l.items
