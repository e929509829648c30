-- The stream that a sort gives.
-- Here a whole list is sorted; the code gathers its items first, and sorts them when their end came.
use Rattle.std.specs.Prelude.{List, []}
use Rattle.osm_entity.specs.Items.{ItemValue}
use Rattle.osm_entity.specs.Sorting.{sorted_by_key}
use Rattle.osm_entity.specs.Streams.{Stream}
use Rattle.osm_entity.specs.declared.stream.End.{End}
use Rattle.osm_entity.specs.declared.stream.End.TheVariants.{Done, Broken}

-- the items of a sort: all sorted by key, equal keys in their old order; after a broken end none
abbrev pub items_sorted : List ItemValue → End → List ItemValue
items_sorted items Done = sorted_by_key items
items_sorted items Broken = []

-- the stream of a sort: these items, and the end of its input
abbrev pub stream_sorted : Stream → Stream
stream_sorted s = record { items = items_sorted s.items s.end; end = s.end }
