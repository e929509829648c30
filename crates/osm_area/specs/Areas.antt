-- Places in areas: boxes, and sections that add and subtract rings.
-- Here the last section that holds the place decides; the code goes through all of them with a flag.
use Rattle.std.specs.Prelude.{Bool, false, ◌&&◌, List, reverse}
use Rattle.std.specs.List.{find}
use Rattle.std.specs.Option.{option_map_or}
use Rattle.osm_entity.specs.declared.parts.Place.{Place}
use Rattle.osm_area.specs.Edges.{lies_between}
use Rattle.osm_area.specs.Rings.{is_in_ring}
use Rattle.osm_area.specs.declared.area.Section.{Section}
use Rattle.osm_area.specs.declared.area.Area.{Area}
use Rattle.osm_area.specs.declared.area.Area.TheVariants.{Box, Rings}

-- the last section whose ring holds the place says whether it is inside, and where none does it is outside
abbrev pub sections_hold : List Section → Place → Bool
sections_hold sections place =
    option_map_or (λ section. section.add) (find (λ section. is_in_ring section.ring place) (reverse sections)) false

-- an area holds a place: a box with its edges, and sections as their last one says
abbrev pub holds : Area → Place → Bool
holds (Box left right top bottom) place =
    lies_between left place.lon right && lies_between bottom place.lat top
holds (Rings sections) place = sections_hold sections place
