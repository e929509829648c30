-- The stream that a simplify gives.
-- Here the last item of each key is looked for in the whole list; the code puts each item over the one before it.
use Rattle.std.specs.Prelude.{List, [], ◌∷◌, not, if◌then◌else◌}
use Rattle.std.specs.List.{filter}
use Rattle.osm_entity.specs.Items.{ItemValue, key_of}
use Rattle.osm_entity.specs.Streams.{Stream}
use Rattle.osm_entity.specs.declared.stream.End.{End}
use Rattle.osm_entity.specs.declared.stream.End.TheVariants.{Done, Broken}
use Rattle.osm_merge.specs.Rules.{is_same_key}

-- an item, or the last of those behind it that have its key
abbrev pub last_of_key : ItemValue → List ItemValue → ItemValue
last_of_key item [] = item
last_of_key item (next ∷ more) = last_of_key (if is_same_key (key_of next) (key_of item) then next else item) more

-- those of some items that have another key
abbrev pub without_key : ItemValue → List ItemValue → List ItemValue
without_key item items = filter (λ (other : ItemValue). not (is_same_key (key_of other) (key_of item))) items

-- the last item of each key, in the order of the keys' first items
abbrev pub last_of_each : List ItemValue → List ItemValue
last_of_each [] = []
last_of_each (item ∷ more) = last_of_key item more ∷ without_key item (last_of_each more)

-- the items that a simplify keeps behind an end: all after Done, and none after Broken
abbrev pub kept_behind : List ItemValue → End → List ItemValue
kept_behind items Done = items
kept_behind items Broken = []

-- the stream of a simplify: the last item of each key, after a broken end none; and the end of its input
abbrev pub stream_simplified : Stream → Stream
stream_simplified s = record { items = kept_behind (last_of_each s.items) s.end; end = s.end }

-- an item in the place of the one of its key, or behind all where there is none
abbrev pub with_latest : List ItemValue → ItemValue → List ItemValue
with_latest [] item = item ∷ []
with_latest (x ∷ xs) item = if is_same_key (key_of x) (key_of item) then item ∷ xs else x ∷ with_latest xs item
