-- A block as the code reads it, part after part.
-- Here each part is known from the whole block; the code adds the entities of one after those of the others.
use Rattle.std.specs.Prelude.{ℕ, ◌≡◌, List, length, map, All, Option, Some, None, if◌then◌else◌}
use Rattle.osm_entity.specs.declared.kind.Kind.{Kind}
use Rattle.osm_entity.specs.declared.kind.Kind.TheVariants.{Node, Way, Relation}
use Rattle.osm_wire.specs.Entries.{◌>>=◌, scalar}
use Rattle.osm_wire.specs.Integers.{int32, int64}
use Rattle.osm_wire.specs.Messages.{FieldValue}
use Rattle.osm_block_read.specs.Block.{Block, all_entries, block, joined}
use Rattle.osm_block_read.specs.Entries.{Entry}
use Rattle.osm_block_read.specs.Plain.{node_entry, way_entry, relation_entry}
use Rattle.osm_block_read.specs.Rows.{AreRowsIn, IsAdded, entries_of}
use Rattle.osm_block_read.specs.Spans.{IsSpanIn, part_in}
use Rattle.osm_block_read.specs.Seen.{setting_of}
use Rattle.osm_block_read.specs.declared.content.Content.{Content}
use Rattle.osm_block_read.specs.declared.row.Rows.{Rows}
use Rattle.osm_block_read.specs.declared.setting.Scale.{Scale}

-- what a message of an entity of a kind says
abbrev pub entry_said : Kind → List ℕ → Option Entry
entry_said Node bytes = node_entry bytes
entry_said Way bytes = way_entry bytes
entry_said Relation bytes = relation_entry bytes

-- the number of the field of a group that has the entities of a kind
abbrev pub number_of : Kind → ℕ
number_of Node = 1
number_of Way = 3
number_of Relation = 4

-- the scale that the fields of a block say; None where one of its numbers is none
abbrev pub scale_said : List FieldValue → Option Scale
scale_said fields = do
  granularity ← scalar 100 17 fields
  date_granularity ← scalar 1000 18 fields
  lat_offset ← scalar 0 19 fields
  lon_offset ← scalar 0 20 fields
  Some (record {
    granularity = int32 granularity;
    date_granularity = int32 date_granularity;
    lat_offset = int64 lat_offset;
    lon_offset = int64 lon_offset;
  })

-- rows were added that say these entries, where they are said
pub record AreMessagesAdded (old new : Rows) (said : Option (List Entry)) : Type 0 where
  pub entries : List Entry
  pub said_is : said ≡ Some entries
  pub added : IsAdded old new entries

-- the entries read so far; None where the lengths of some dense nodes don't fit
abbrev pub entries_read : Content → Option (List Entry)
entries_read c = if c.uneven then None else Some (entries_of c.rows)

-- more entries were read, or dense nodes whose lengths don't fit; the texts and the scale stay
pub record IsMoreRead (old new : Content) (more : Option (List Entry)) : Type 0 where
  pub within : AreRowsIn new.rows
  pub entries : entries_read new ≡ joined (entries_read old) more
  pub texts : new.texts ≡ old.texts

-- the entries of a message were read, which says something
pub record IsPartRead {T : Type 0} (old new : Content) (said : Option T)
    (entries : T → Option (List Entry)) : Type 0 where
  pub part : T
  pub said_is : said ≡ Some part
  pub more : IsMoreRead old new (entries part)

-- a block was read: it is well formed, its texts lie in its bytes, and its entries are known
pub record IsBlockRead (raw : List ℕ) (c : Content) : Type 0 where
  pub said : Block
  pub said_is : block raw ≡ Some said
  pub setting : said.setting ≡ setting_of (map (part_in raw) c.texts.items) c.scale
  pub entries : entries_read c ≡ all_entries said.groups
  pub texts : All (IsSpanIn (length raw)) c.texts.items
  pub rows : AreRowsIn c.rows
