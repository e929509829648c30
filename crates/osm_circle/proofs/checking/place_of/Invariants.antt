use Rattle.std.proofs.Common.{◌≢◌, ◌<◌, ℕ, get_or}
use Rattle.osm_circle.specs.Circles.{sense_start}
use Rattle.osm_circle.specs.declared.circle.Sense.{Sense}
use Rattle.osm_circle.proofs.checking.place_of.Given as goal

-- no sense so far starts at the task
abbrev pub invariant-loop-at : goal.invariant-loop-at
invariant-loop-at l = (k : ℕ) (d : Sense) → k < l.at → sense_start l.graph.pipes (get_or l.walk k d) ≢ l.task
