-- Bounds round the edges of a path, which goes on from run to run and from group to group.
-- Here the bounds are laid along the path by its first places and the others; the code moves along it.
use Rattle.std.specs.Prelude.{Bool, ◌&&◌, nat_le, int_le, int_lt, List, [], ◌∷◌, length, take, drop}
use Rattle.std.specs.List.{list_all}
use Rattle.osm_entity.specs.declared.parts.Place.{Place}
use Rattle.osm_area.specs.Edges.{lies_between}
use Rattle.osm_area.specs.declared.bounds.Bounds.{Bounds}
use Rattle.osm_area.specs.declared.group.Group.{Group}

-- bounds hold a place, also on their sides
abbrev pub bounds_hold : Bounds → Place → Bool
bounds_hold bounds place =
    lies_between bounds.left place.lon bounds.right && lies_between bounds.bottom place.lat bounds.top

-- an edge within bounds can count for a place that is west of their right side, from their bottom on and below their top
abbrev pub bounds_reach : Bounds → Place → Bool
bounds_reach bounds place =
    int_le bounds.bottom place.lat && int_lt place.lat bounds.top && int_lt place.lon bounds.right

-- all places within bounds lie east of a place
abbrev pub bounds_lie_east : Bounds → Place → Bool
bounds_lie_east bounds place = int_lt place.lon bounds.left

-- bounds fit a path in runs: each hold their run of 32 edges, they are all of them, and no edge is left over
abbrev pub runs_fit : List Bounds → List Place → Bool
runs_fit [] path = nat_le (length path) 1
runs_fit (bounds ∷ more) path = list_all (bounds_hold bounds) (take 33 path) && runs_fit more (drop 32 path)

-- a group fits a path of its own: its bounds hold all of it, and those of its runs fit
abbrev pub group_fits : Group → List Place → Bool
group_fits group path = list_all (bounds_hold group.bounds) path && runs_fit group.runs path

-- groups fit a path: each fits its 1,024 edges, they are all of them, and no edge is left over
abbrev pub groups_fit : List Group → List Place → Bool
groups_fit [] path = nat_le (length path) 1
groups_fit (group ∷ groups) path = group_fits group (take 1025 path) && groups_fit groups (drop 1024 path)
