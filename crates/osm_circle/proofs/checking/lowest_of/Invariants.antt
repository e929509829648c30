use Rattle.std.proofs.Common.{◌<◌, ◌≤◌, ℕ, get_or, length}
use Rattle.osm_circle.specs.declared.circle.Sense.{Sense}
use Rattle.osm_circle.proofs.checking.lowest_of.Given as goal

-- no sense so far is over a lower pipe
abbrev pub invariant-loop-at : goal.invariant-loop-at
invariant-loop-at l =
    (l.lowest < length l.senses) ×
    ((k : ℕ) (d e : Sense) → k < l.at → (get_or l.senses l.lowest e).pipe ≤ (get_or l.senses k d).pipe)
