use Rattle.std.proofs.Common.{◌+◌, ◌*◌, ◌-◌, length}
use Rattle.osm_circle.specs.Search.{live_count}
use Rattle.osm_circle.proofs.Trails.{IsPruned, IsTrail}
use Rattle.osm_circle.proofs.checking.check.Given as goal

-- the marks are on all senses of bare circles, and the walk is a trail
abbrev pub invariant-loop-next : goal.invariant-loop-next
invariant-loop-next l = IsPruned l.graph.pipes l.live × IsTrail l.graph.pipes l.live l.walk.items

abbrev pub decreases-loop-next : goal.decreases-loop-next
decreases-loop-next l = 130 * live_count l.live + 128 - length l.walk.items
