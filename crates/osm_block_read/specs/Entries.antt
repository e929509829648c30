-- The entities of a block, with numbers in the place of their texts, and the items that they are.
-- Here an entry of any kind is one record; the code has its lists as parts of longer ones.
use Rattle.std.specs.Prelude.{ℕ, ℤ, pos, ◌+ℤ◌, ◌*ℤ◌, int_div, ◌==◌, Bool, List, [], map, slice_index_or, if◌then◌else◌, Some}
use Rattle.osm_entity.specs.Counts.{counted}
use Rattle.osm_entity.specs.Entities.{EntityValue}
use Rattle.osm_entity.specs.Items.{ItemValue}
use Rattle.osm_entity.specs.declared.item.Act.TheVariants.{Keep}
use Rattle.osm_entity.specs.declared.kind.Kind.{Kind}
use Rattle.osm_entity.specs.declared.kind.Kind.TheVariants.{Node as OfNode, Way as OfWay, Relation as OfRelation}
use Rattle.osm_entity.specs.declared.parts.Body.{Body}
use Rattle.osm_entity.specs.declared.parts.Body.TheVariants.{Node, Way, Relation}
use Rattle.osm_entity.specs.declared.parts.Member.{Member}
use Rattle.osm_entity.specs.declared.parts.Tag.{Tag}
use Rattle.osm_block_read.specs.declared.entry.EntryInfo.{EntryInfo}
use Rattle.osm_block_read.specs.declared.entry.EntryMember.{EntryMember}
use Rattle.osm_block_read.specs.declared.entry.EntryTag.{EntryTag}

-- what holds for a whole block: its texts, and how its places and times are coded
pub record SettingValue : Type 0 where
  pub texts : List (List ℕ)
  pub granularity : ℤ
  pub date_granularity : ℤ
  pub lat_offset : ℤ
  pub lon_offset : ℤ

-- what is proper to a kind: a latitude and a longitude, refs, or members
pub data EntryBody : Type 0 where
  At : (lat lon : ℤ) → EntryBody
  Along : (refs : List ℤ) → EntryBody
  Having : (members : List EntryMember) → EntryBody

-- an entity with numbers in the place of its texts; it is even where its lists have the lengths that they should
pub record Entry : Type 0 where
  pub even : Bool
  pub id : ℤ
  pub info : EntryInfo
  pub tags : List EntryTag
  pub body : EntryBody

-- the text of an index
abbrev pub text_at : List (List ℕ) → ℤ → List ℕ
text_at texts index = slice_index_or texts (counted index) []

-- the kind of a number: 0 is a node, 1 a way and 2 a relation
abbrev pub kind_of_number : ℤ → Kind
kind_of_number number =
    if counted number == 0 then OfNode
    else if counted number == 1 then OfWay
    else OfRelation

-- the nanodegrees of a coded degree: the offset, and the granularity times the value
abbrev pub degrees_at : ℤ → ℤ → ℤ → ℤ
degrees_at offset granularity value = offset +ℤ (granularity *ℤ value)

-- the seconds of a coded time: it times the date granularity, divided by 1,000 and cut toward zero; 0 where it is
-- negative
abbrev pub seconds_at : ℤ → ℤ → ℕ
seconds_at date_granularity timestamp = counted (int_div (timestamp *ℤ date_granularity) (pos 1000))

-- the tag of two indexes
abbrev pub entry_tag : SettingValue → EntryTag → Tag
entry_tag s t = record { key = text_at s.texts t.key; value = text_at s.texts t.value }

-- the member of a kind's number, an id and an index
abbrev pub entry_member : SettingValue → EntryMember → Member
entry_member s m = record { kind = kind_of_number m.kind; id = m.id; role = text_at s.texts m.role }

-- the place, the refs or the members
abbrev pub entry_body : SettingValue → EntryBody → Body
entry_body s (At lat lon) = Node (Some (record {
  lon = degrees_at s.lon_offset s.granularity lon;
  lat = degrees_at s.lat_offset s.granularity lat;
}))
entry_body s (Along refs) = Way refs
entry_body s (Having members) = Relation (map (entry_member s) members)

-- the entity of an entry, where a negative version, changeset or uid is read as 0
abbrev pub entry_entity : SettingValue → Entry → EntityValue
entry_entity s e = record {
  id = e.id;
  version = counted e.info.version;
  time = seconds_at s.date_granularity e.info.timestamp;
  changeset = counted e.info.changeset;
  uid = counted e.info.uid;
  user = text_at s.texts e.info.user;
  tags = map (entry_tag s) e.tags;
  body = entry_body s e.body;
}

-- the item of an entry: its entity is there
abbrev pub entry_item : SettingValue → Entry → ItemValue
entry_item s e = record { act = Keep; entity = entry_entity s e }
