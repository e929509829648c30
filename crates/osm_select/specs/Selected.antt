-- The stream of an area task by its options.
-- Here the rule is a function of a stream; the code is one of two machines.
use Rattle.std.specs.Prelude.{Bool, ◌||◌, if◌then◌else◌}
use Rattle.osm_area.specs.declared.area.Area.{Area}
use Rattle.osm_entity.specs.Streams.{Stream}
use Rattle.osm_entity.specs.declared.options.AreaOptions.{AreaOptions}
use Rattle.osm_select.specs.Held.{stream_held}
use Rattle.osm_select.specs.Passed.{stream_passed}

-- a task holds its items where ways are completed or relations cascade
abbrev pub area_holds : AreaOptions → Bool
area_holds options = options.complete_ways || options.cascading_relations

-- the stream of an area task: what it holds and chooses, or else what it passes on
abbrev pub area_selected : Area → AreaOptions → Stream → Stream
area_selected area options s =
    if area_holds options then stream_held area options.complete_ways options.clip s
    else stream_passed area options.clip s
