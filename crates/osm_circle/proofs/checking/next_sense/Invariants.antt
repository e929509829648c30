use Rattle.std.proofs.Common.{◌≡◌, ◌<◌, true}
use Rattle.osm_circle.specs.Search.{CanFollow, is_live}
use Rattle.osm_circle.specs.declared.circle.Sense.{Sense}
use Rattle.osm_circle.proofs.checking.next_sense.Given as goal

-- no live sense over a pipe so far can follow
abbrev pub invariant-loop-pipe : goal.invariant-loop-pipe
invariant-loop-pipe l =
    (s : Sense) → s.pipe < l.pipe → CanFollow l.graph.pipes l.last s → is_live l.live s ≡ true → ⊥
