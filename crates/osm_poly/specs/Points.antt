-- Points of polygon files: a longitude and a latitude on a line.
-- Here a line is cut once, at its first gap.
use Rattle.std.specs.Prelude.{ℕ, ℤ, ◌^◌, List, drop, Bool, not, ◌||◌, ◌==◌, nat_le, if◌then◌else◌, Option, Some, None, unsigned_abs}
use Rattle.std.specs.List.{position_or_len, before_first, after_first}
use Rattle.std.specs.Option.{option_and_then}
use Rattle.osm_entity.specs.Ascii.{tab, space}
use Rattle.osm_entity.specs.declared.parts.Place.{Place}
use Rattle.osm_text.specs.Nano.{nano}

-- a byte that parts the numbers of a point: a space or a tab
abbrev pub is_gap : ℕ → Bool
is_gap b = (b == space) || (b == tab)

-- a byte that is no gap
abbrev pub is_text : ℕ → Bool
is_text b = not (is_gap b)

-- a text from its first byte on that is no gap
abbrev pub from_text : List ℕ → List ℕ
from_text text = drop (position_or_len is_text text) text

-- nanodegrees of at most 1,000 degrees in size
abbrev pub within_ring : ℤ → Option ℤ
within_ring degrees = if nat_le (unsigned_abs degrees) (10 ^ 12) then Some degrees else None

-- degrees of a point: a nano number of at most 1,000 degrees in size
abbrev pub poly_degrees : List ℕ → Option ℤ
poly_degrees text = option_and_then within_ring (nano text)

-- a place, where both its degrees are there
abbrev pub place_of_degrees : Option ℤ → Option ℤ → Option Place
place_of_degrees (Some east) (Some north) = Some (record { lon = east; lat = north })
place_of_degrees east north = None

-- a point is a longitude before the first gap of its line, and a latitude after the gap
abbrev pub poly_place : List ℕ → Option Place
poly_place line =
    place_of_degrees (poly_degrees (before_first is_gap line)) (poly_degrees (from_text (after_first is_gap line)))
