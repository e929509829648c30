use Rattle.std.proofs.Common.{◌≡◌, ◌++◌, true, List, length}
use Rattle.osm_area.specs.Bounds.{groups_fit}
use Rattle.osm_area.specs.declared.group.Group.{Group}
use Rattle.osm_area.proofs.group.groups_of.Given as goal

-- what fits the places that are left makes the whole fit
abbrev pub invariant-loop-rest : goal.invariant-loop-rest
invariant-loop-rest l =
    (more : List Group) → groups_fit more l.rest ≡ true → groups_fit (l.groups ++ more) l.path ≡ true

abbrev pub decreases-loop-rest : goal.decreases-loop-rest
decreases-loop-rest l = length l.rest
