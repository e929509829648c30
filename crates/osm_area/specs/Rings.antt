-- Places inside rings.
-- Here a ring is closed and all its edges are counted; the code takes the last edge by itself.
use Rattle.std.specs.Prelude.{Bool, List, [], ◌∷◌, ◌++◌}
use Rattle.std.specs.List.{count_by}
use Rattle.osm_entity.specs.declared.parts.Place.{Place}
use Rattle.osm_area.specs.Edges.{counts, steps, is_odd}

-- the places of a ring, and its first again
abbrev pub closed : List Place → List Place
closed [] = []
closed (first ∷ rest) = first ∷ rest ++ first ∷ []

-- the edges of a ring: each place joined with the next, and the last with the first
abbrev pub edges : List Place → List (Place × Place)
edges ring = steps (closed ring)

-- a place lies inside a ring where an odd number of its edges count
abbrev pub is_in_ring : List Place → Place → Bool
is_in_ring ring place = is_odd (count_by (counts place) (edges ring))
