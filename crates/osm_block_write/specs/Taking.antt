-- What a maker has of the entities that it took: their texts, and their numbers or their messages.
-- Here it follows from the whole run; the code adds to it entity by entity.
use Rattle.std.specs.Prelude.{ℕ, pos, List, [], ◌∷◌, ◌++◌, map, Bool, if◌then◌else◌}
use Rattle.std.specs.Int.{w32, w64}
use Rattle.std.specs.List.{flat_map}
use Rattle.osm_entity.specs.Entities.{EntityValue}
use Rattle.osm_entity.specs.declared.kind.Kind.{Kind}
use Rattle.osm_wire.specs.Messages.{FieldValue}
use Rattle.osm_wire.specs.Written.{packed, written_field, written_message}
use Rattle.osm_block_write.specs.declared.options.PbfOptions.{PbfOptions}
use Rattle.osm_block_write.specs.declared.taken.Row.{Row}
use Rattle.osm_block_write.specs.declared.taken.Taken.{Taken}
use Rattle.osm_block_write.specs.Block.{granularity_field, is_dense}
use Rattle.osm_block_write.specs.Columns.{bytes_field, delta_field, packed_field}
use Rattle.osm_block_write.specs.Messages.{entity_field, info_field, keys_vals, lat_in, lon_in, place_in}
use Rattle.osm_block_write.specs.Numbered.{Numbered, with_numbers}
use Rattle.osm_block_write.specs.Tables.{table_of, texts_of, with_texts}

-- the numbers of a dense node
abbrev pub row_of : PbfOptions → Numbered → Row
row_of options n = record {
  id = n.entity.id;
  lat = lat_in options (place_in n.entity.body);
  lon = lon_in options (place_in n.entity.body);
  changeset = pos n.entity.changeset;
  version = n.entity.version;
  time = n.entity.time;
  uid = pos n.entity.uid;
  user = pos n.user;
}

-- the tags of dense nodes, packed
abbrev pub tags_packed : List Numbered → List ℕ
tags_packed nodes = packed (flat_map (λ n. keys_vals n.tags) nodes)

-- what is taken of a run by its string table: rows and tags of dense nodes, or messages of other entities
abbrev pub taken_by : Bool → PbfOptions → List (List ℕ) → List Numbered → Taken
taken_by dense options table run = record {
  texts = table;
  rows = if dense then map (row_of options) run else [];
  bytes = if dense then tags_packed run else written_message (map (entity_field options) run);
}

-- what is taken of a run of this kind
abbrev pub taken_of : PbfOptions → Kind → List EntityValue → Taken
taken_of options kind run =
    let table = table_of options run in
    taken_by (is_dense options kind) options table (map (with_numbers options table) run)

-- what is taken with an entity more, by a string table that has its texts
abbrev pub with_numbered : Bool → PbfOptions → Taken → List (List ℕ) → Numbered → Taken
with_numbered dense options taken table n = record {
  texts = table;
  rows = if dense then taken.rows ++ row_of options n ∷ [] else taken.rows;
  bytes = taken.bytes ++ (if dense then packed (keys_vals n.tags) else written_field (entity_field options n));
}

-- what is taken with an entity more, by the table with its texts
abbrev pub with_taken : PbfOptions → Kind → Taken → EntityValue → Taken
with_taken options kind taken e =
    let table = with_texts taken.texts (texts_of options e) in
    with_numbered (is_dense options kind) options taken table (with_numbers options table e)

-- the metadata of dense nodes by their rows
abbrev pub info_of_rows : List Row → List FieldValue
info_of_rows rows =
    packed_field 1 (map (λ r. r.version) rows)
    ++ delta_field w64 2 (map (λ r. pos r.time) rows)
    ++ delta_field w64 3 (map (λ r. r.changeset) rows)
    ++ delta_field w32 4 (map (λ r. r.uid) rows)
    ++ delta_field w32 5 (map (λ r. r.user) rows)

-- a field of numbers that are packed already; none where they aren't wanted
abbrev pub wanted_field : Bool → ℕ → List ℕ → List FieldValue
wanted_field wanted number numbers = if wanted then bytes_field number numbers ∷ [] else []

-- dense nodes by their rows and their tags
abbrev pub dense_of_rows : PbfOptions → List Row → Bool → List ℕ → List FieldValue
dense_of_rows options rows tagged tags =
    delta_field w64 1 (map (λ r. r.id) rows)
    ++ info_field options 5 (info_of_rows rows)
    ++ delta_field w64 8 (map (λ r. r.lat) rows)
    ++ delta_field w64 9 (map (λ r. r.lon) rows)
    ++ wanted_field tagged 10 tags

-- the bytes of a group by what was taken
abbrev pub group_of_taken : Bool → PbfOptions → Taken → Bool → List ℕ
group_of_taken dense options taken tagged =
    if dense
    then written_message (bytes_field 2 (written_message (dense_of_rows options taken.rows tagged taken.bytes)) ∷ [])
    else taken.bytes

-- the bytes of a block by what was taken
abbrev pub block_of_taken : PbfOptions → Kind → Taken → Bool → List ℕ
block_of_taken options kind taken tagged =
    written_message
    (bytes_field 1 (written_message (map (bytes_field 1) taken.texts))
    ∷ bytes_field 2 (group_of_taken (is_dense options kind) options taken tagged)
    ∷ granularity_field options.granularity)
