-- What comes back of the items of a stream that was written as a PBF file.
-- Here each item comes back by itself; a reader goes from block to block.
use Rattle.std.specs.Prelude.{◌≡◌, ℕ, ℤ, pos, ◌*ℤ◌, int_rem, ⊤, List, [], map, Some, None, if◌then◌else◌}
use Rattle.std.specs.List.{flat_map}
use Rattle.osm_entity.specs.Entities.{EntityValue}
use Rattle.osm_entity.specs.Items.{ItemValue}
use Rattle.osm_entity.specs.Streams.{Stream}
use Rattle.osm_entity.specs.declared.item.Act.TheVariants.{Keep}
use Rattle.osm_entity.specs.declared.parts.Body.{Body}
use Rattle.osm_entity.specs.declared.parts.Body.TheVariants.{Node, Way, Relation}
use Rattle.osm_block_write.specs.declared.options.PbfOptions.{PbfOptions}
use Rattle.osm_block_write.specs.Messages.{in_units}
use Rattle.osm_block_write.specs.Runs.{written_runs}
use Rattle.osm_pbf.specs.WrittenFile.{runs_of_items}

-- a number of nanodegrees, cut toward zero to a multiple of the granularity
abbrev pub cut_degrees : PbfOptions → ℤ → ℤ
cut_degrees options nanodegrees = pos options.granularity *ℤ in_units options nanodegrees

-- a body, whose place is cut to the granularity; a node without a place comes back at latitude and longitude 0
abbrev pub body_back : PbfOptions → Body → Body
body_back options (Node None) = Node (Some (record { lon = pos 0; lat = pos 0 }))
body_back options (Node (Some place)) =
    Node (Some (record { lon = cut_degrees options place.lon; lat = cut_degrees options place.lat }))
body_back options (Way refs) = Way refs
body_back options (Relation members) = Relation members

-- a number of the metadata; 0 where metadata is left out
abbrev pub number_back : PbfOptions → ℕ → ℕ
number_back options n = if options.omitmetadata then 0 else n

-- a user; empty where metadata is left out
abbrev pub user_back : PbfOptions → List ℕ → List ℕ
user_back options user = if options.omitmetadata then [] else user

-- an entity, with what its metadata and its body come back as
abbrev pub entity_back : PbfOptions → EntityValue → EntityValue
entity_back options e = record {
  id = e.id;
  version = number_back options e.version;
  time = number_back options e.time;
  changeset = number_back options e.changeset;
  uid = number_back options e.uid;
  user = user_back options e.user;
  tags = e.tags;
  body = body_back options e.body;
}

-- the item of an entity that comes back: it is there
abbrev pub item_back : PbfOptions → EntityValue → ItemValue
item_back options e = record { act = Keep; entity = entity_back options e }

-- the items that come back of a stream: those of its runs; where the stream broke off, without those of the last run
abbrev pub items_back : PbfOptions → Stream → List ItemValue
items_back options s =
    map (item_back options) (flat_map (λ run. run) (written_runs (runs_of_items options s.items) s.end))

-- a number of nanodegrees is a multiple of the granularity
abbrev pub IsMultiple : PbfOptions → ℤ → Type 0
IsMultiple options nanodegrees = int_rem nanodegrees (pos options.granularity) ≡ pos 0

-- a body whose place, where it has one, is a multiple of the granularity
abbrev pub IsBodyWhole : PbfOptions → Body → Type 0
IsBodyWhole options (Node None) = ⊤
IsBodyWhole options (Node (Some place)) = IsMultiple options place.lon × IsMultiple options place.lat
IsBodyWhole options (Way refs) = ⊤
IsBodyWhole options (Relation members) = ⊤
