use Rattle.std.proofs.Common.{◌≡◌, ◌++◌, true, List, length}
use Rattle.osm_area.specs.Bounds.{runs_fit}
use Rattle.osm_area.specs.declared.bounds.Bounds.{Bounds}
use Rattle.osm_area.proofs.group.runs_of.Given as goal

-- what fits the places that are left makes the whole fit
abbrev pub invariant-loop-rest : goal.invariant-loop-rest
invariant-loop-rest l = (more : List Bounds) → runs_fit more l.rest ≡ true → runs_fit (l.runs ++ more) l.path ≡ true

abbrev pub decreases-loop-rest : goal.decreases-loop-rest
decreases-loop-rest l = length l.rest
