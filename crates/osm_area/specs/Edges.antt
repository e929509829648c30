-- Edges between places of rings, and which of them count for a place.
-- Here the edges of a path are listed and counted; the code turns a flag at each that counts.
use Rattle.std.specs.Prelude.{ℕ, ℤ, ◌%◌, ◌^◌, ◌-ℤ◌, ◌*ℤ◌, Bool, ◌&&◌, ◌||◌, ◌==◌, nat_le, int_le, int_lt, unsigned_abs, List, drop}
use Rattle.std.specs.List.{zip}
use Rattle.osm_entity.specs.declared.parts.Place.{Place}

-- a place of a ring lies within 1,000 degrees, in nanodegrees
abbrev pub is_ring_place : Place → Bool
is_ring_place place = nat_le (unsigned_abs place.lon) (10 ^ 12) && nat_le (unsigned_abs place.lat) (10 ^ 12)

-- a number lies between two others, or is one of them
abbrev pub lies_between : ℤ → ℤ → ℤ → Bool
lies_between low value high = int_le low value && int_le value high

-- an edge from a lower place up to a higher one passes the latitude of a place: from the lower on, and not the higher's
abbrev pub passes_upward : Place → Place → Place → Bool
passes_upward low high place = int_le low.lat place.lat && int_lt place.lat high.lat

-- a place is west of where the edge from a lower place up to a higher one meets its latitude
abbrev pub is_west : Place → Place → Place → Bool
is_west low high place =
    int_lt ((place.lon -ℤ low.lon) *ℤ (high.lat -ℤ low.lat)) ((place.lat -ℤ low.lat) *ℤ (high.lon -ℤ low.lon))

-- of two places the second is further east
abbrev pub lies_east : Place → Place → Bool
lies_east place east = int_lt place.lon east.lon

-- an edge from a lower place up to a higher one counts for a place that it passes to the east
abbrev pub counts_upward : Place → Place → Place → Bool
counts_upward low high place = passes_upward low high place && is_west low high place

-- an edge counts for a place where it does so upward, from either of its ends
abbrev pub counts : Place → Place × Place → Bool
counts place edge = counts_upward edge.0 edge.1 place || counts_upward edge.1 edge.0 place

-- the edges along a path: each place with the next
abbrev pub steps : List Place → List (Place × Place)
steps path = zip path (drop 1 path)

-- a number is odd
abbrev pub is_odd : ℕ → Bool
is_odd n = n % 2 == 1
