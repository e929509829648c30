use Rattle.std.proofs.Common.{◌≢◌, ◌<◌, ℕ, get_or}
use Rattle.osm_circle.specs.declared.circle.Sense.{Sense}
use Rattle.osm_circle.proofs.bare.are_different.Given as goal

-- the senses so far are over different pipes
abbrev pub invariant-loop-at : goal.invariant-loop-at
invariant-loop-at l =
    (i j : ℕ) (d : Sense) → i < j → j < l.at → (get_or l.senses i d).pipe ≢ (get_or l.senses j d).pipe
