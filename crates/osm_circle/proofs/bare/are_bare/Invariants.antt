use Rattle.std.proofs.Common.{◌≡◌, ◌<◌, ℕ, true, false, get_or}
use Rattle.osm_graph.specs.Pipes.{pipe_of}
use Rattle.osm_circle.specs.Circles.{is_spool}
use Rattle.osm_circle.specs.declared.circle.Sense.{Sense}
use Rattle.osm_circle.proofs.bare.are_bare.Given as goal

-- no sense so far is along a spool
abbrev pub invariant-loop-sense : goal.invariant-loop-sense
invariant-loop-sense l =
    (k : ℕ) (d : Sense) → k < l.sense-index → (get_or l.senses k d).along ≡ true →
    is_spool (pipe_of l.graph.pipes (get_or l.senses k d).pipe).store ≡ false
