use Rattle.std.proofs.Common.{◌≡◌, true, take}
use Rattle.std.specs.List.{list_all}
use Rattle.osm_area.specs.Bounds.{bounds_hold}
use Rattle.osm_area.proofs.bounds.bounds_of.Given as goal

-- the places so far lie within the bounds
abbrev pub invariant-loop-place : goal.invariant-loop-place
invariant-loop-place l = list_all (bounds_hold l.bounds) (take l.place-index l.path) ≡ true
