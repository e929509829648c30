use Rattle.std.proofs.Common.{◌≡◌, take}
use Rattle.osm_circle.proofs.circle.Circle.of.Given as goal

abbrev pub invariant-loop-sense : goal.invariant-loop-sense
invariant-loop-sense l = l.list.items ≡ take l.sense-index l.senses
