use Rattle.std.proofs.Common.{ℕ, drop}
use Rattle.std.specs.Prelude.{◌↔◌}
use Rattle.osm_circle.specs.Circles.{IsWalk}
use Rattle.osm_circle.proofs.walking.walk_end.Given as goal

-- the senses lead to a task exactly where those that are left lead there from the task so far
abbrev pub invariant-loop-sense : goal.invariant-loop-sense
invariant-loop-sense l =
    (task : ℕ) → (IsWalk l.graph.pipes l.start l.senses task) ↔
    (IsWalk l.graph.pipes l.task (drop l.sense-index l.senses) task)
