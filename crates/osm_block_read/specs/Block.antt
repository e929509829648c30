-- A block of a file: its items, or the first thing that is wrong with it.
-- Here the checks go through the whole block one after the other; the code reads it once, into numbers.
use Rattle.std.specs.Prelude.{ℕ, List, [], ◌∷◌, ◌++◌, not, Option, Some, None, Result, Err, if◌then◌else◌}
use Rattle.std.specs.List.{list_all}
use Rattle.std.specs.Option.{option_map}
use Rattle.std.specs.Str.{is_utf8}
use Rattle.osm_entity.specs.Items.{ItemValue}
use Rattle.osm_entity.specs.declared.verdict.Cause.{Cause}
use Rattle.osm_entity.specs.declared.verdict.Cause.TheVariants.{BadWire, BadText, BadLengths}
use Rattle.osm_wire.specs.Integers.{int32, int64}
use Rattle.osm_wire.specs.Entries.{◌>>=◌, message_fields, scalar, single_bytes, singular, messages}
use Rattle.osm_block_read.specs.Dense.{Dense, dense, dense_entries}
use Rattle.osm_block_read.specs.Entries.{Entry, SettingValue}
use Rattle.osm_block_read.specs.Faults.{entries_said}
use Rattle.osm_block_read.specs.Strings.{table_texts}
use Rattle.osm_block_read.specs.Plain.{node_entry, way_entry, relation_entry}

-- a group: its nodes, its dense nodes, its ways and its relations
pub record Group : Type 0 where
  pub nodes : List Entry
  pub dense : Option Dense
  pub ways : List Entry
  pub relations : List Entry

-- a block: what holds for all of it, and its groups
pub record Block : Type 0 where
  pub setting : SettingValue
  pub groups : List Group

-- what the message of a group's dense nodes says, where it is there
abbrev pub dense_part : List ℕ → Option (Option Dense)
dense_part bytes = option_map Some (dense bytes)

-- what a message of a group says; None where it isn't well formed
abbrev pub group : List ℕ → Option Group
group bytes = do
  fields ← message_fields bytes
  nodes ← messages node_entry 1 fields
  one_dense ← singular None dense_part 2 fields
  ways ← messages way_entry 3 fields
  relations ← messages relation_entry 4 fields
  Some (record { nodes = nodes; dense = one_dense; ways = ways; relations = relations })

-- what a message of a block says; None where it isn't well formed, or has no string table
abbrev pub block : List ℕ → Option Block
block bytes = do
  fields ← message_fields bytes
  given ← single_bytes 1 fields
  table ← given
  texts ← table_texts table
  groups ← messages group 2 fields
  granularity ← scalar 100 17 fields
  date_granularity ← scalar 1000 18 fields
  lat_offset ← scalar 0 19 fields
  lon_offset ← scalar 0 20 fields
  Some (record {
    setting = record {
      texts = texts;
      granularity = int32 granularity;
      date_granularity = int32 date_granularity;
      lat_offset = int64 lat_offset;
      lon_offset = int64 lon_offset;
    };
    groups = groups;
  })

-- the dense nodes of a group that may have some; None where the lengths of their lists don't fit
abbrev pub dense_in : Option Dense → Option (List Entry)
dense_in None = Some []
dense_in (Some d) = dense_entries d

-- the entities of a group: its nodes, its dense nodes, its ways, its relations; None where its dense lengths don't fit
abbrev pub group_entries : Group → Option (List Entry)
group_entries g = option_map (λ nodes. g.nodes ++ nodes ++ g.ways ++ g.relations) (dense_in g.dense)

-- one list after another, where both are there
abbrev pub joined : {T : Type 0} → Option (List T) → Option (List T) → Option (List T)
joined None more = None
joined (Some first) None = None
joined (Some first) (Some more) = Some (first ++ more)

-- the entities of all groups in order; None where the dense lengths of one don't fit
abbrev pub all_entries : List Group → Option (List Entry)
all_entries [] = Some []
all_entries (g ∷ more) = joined (group_entries g) (all_entries more)

-- the items of a block's entities, or what is wrong with the first with which something is
abbrev pub items_or_cause : SettingValue → Option (List Entry) → Result (List ItemValue) Cause
items_or_cause setting None = Err BadLengths
items_or_cause setting (Some entries) = entries_said setting entries

-- the items of a block that is well formed, or what is wrong: first a text, then the dense lengths, then the entities
abbrev pub checked_block : Block → Result (List ItemValue) Cause
checked_block b =
    if not (list_all is_utf8 b.setting.texts) then Err BadText
    else items_or_cause b.setting (all_entries b.groups)

-- the same of a block that may not be well formed, which is wrong before all else
abbrev pub block_or_cause : Option Block → Result (List ItemValue) Cause
block_or_cause None = Err BadWire
block_or_cause (Some b) = checked_block b

-- the items of the bytes of a block, or the first thing that is wrong with it
unfoldable pub block_said : List ℕ → Result (List ItemValue) Cause
block_said bytes = block_or_cause (block bytes)
