-- Nodes, ways and relations that each have a message of their own.
-- Here the fields of each number are looked up in the whole message; None stands for a message that isn't well formed.
use Rattle.std.specs.Prelude.{ℕ, ℤ, pos, negsuc, ◌^◌, ◌-◌, ◌==◌, ◌&&◌, Bool, true, List, [], ◌∷◌, length, map, Option, Some}
use Rattle.std.specs.Int.{w64}
use Rattle.osm_wire.specs.Messages.{FieldValue}
use Rattle.osm_wire.specs.Entries.{◌>>=◌, message_fields, scalar, needed, repeated, singular}
use Rattle.osm_wire.specs.Integers.{int32, int64, uint32, truth, unzigzagged}
use Rattle.osm_block_read.specs.Entries.{Entry, EntryBody, At, Along, Having}
use Rattle.osm_block_read.specs.declared.entry.EntryInfo.{EntryInfo}
use Rattle.osm_block_read.specs.declared.entry.EntryMember.{EntryMember}
use Rattle.osm_block_read.specs.declared.entry.EntryTag.{EntryTag}
use Rattle.osm_block_read.specs.Numbers.{summed}

-- no metadata: version -1, which is read as 0, and visible
abbrev pub no_info : EntryInfo
no_info = record { version = negsuc 0; timestamp = pos 0; changeset = pos 0; uid = pos 0; user = pos 0; visible = true }

-- what a message of metadata says
abbrev pub info : List ℕ → Option EntryInfo
info bytes = do
  fields ← message_fields bytes
  version ← scalar (2 ^ 32 - 1) 1 fields
  timestamp ← scalar 0 2 fields
  changeset ← scalar 0 3 fields
  uid ← scalar 0 4 fields
  user ← scalar 0 5 fields
  visible ← scalar 1 6 fields
  Some (record {
    version = int32 version;
    timestamp = int64 timestamp;
    changeset = int64 changeset;
    uid = int32 uid;
    user = pos (uint32 user);
    visible = truth visible;
  })

-- tags of a key and a value each, as far as both lists go
abbrev pub entry_tags : List ℕ → List ℕ → List EntryTag
entry_tags [] values = []
entry_tags (key ∷ keys) [] = []
entry_tags (key ∷ keys) (value ∷ values) = record {
  key = pos (uint32 key);
  value =
      pos (uint32 value);
} ∷ entry_tags keys values

-- what each entity says: its tags and metadata, beside an id, what is proper to its kind, and whether that has even
-- lists
abbrev pub entry_with : ℤ → EntryBody → Bool → List FieldValue → Option Entry
entry_with id body even fields = do
  keys ← repeated 2 fields
  values ← repeated 3 fields
  known ← singular no_info info 4 fields
  Some (record {
    even = even && (length keys == length values);
    id = id;
    info = known;
    tags = entry_tags keys values;
    body = body;
  })

-- what a message of a node says
abbrev pub node_entry : List ℕ → Option Entry
node_entry bytes = do
  fields ← message_fields bytes
  id ← needed 1 fields
  lat ← needed 8 fields
  lon ← needed 9 fields
  entry_with (unzigzagged id) (At (unzigzagged lat) (unzigzagged lon)) true fields

-- what a message of a way says
abbrev pub way_entry : List ℕ → Option Entry
way_entry bytes = do
  fields ← message_fields bytes
  id ← needed 1 fields
  refs ← repeated 8 fields
  entry_with (int64 id) (Along (summed w64 (map unzigzagged refs))) true fields

-- members of a kind, an id and a role each, as far as all lists go
abbrev pub entry_members : List ℤ → List ℤ → List ℤ → List EntryMember
entry_members [] ids roles = []
entry_members (kind ∷ kinds) [] roles = []
entry_members (kind ∷ kinds) (id ∷ ids) [] = []
entry_members (kind ∷ kinds) (id ∷ ids) (role ∷ roles) =
    record { kind = kind; id = id; role = role } ∷ entry_members kinds ids roles

-- what a message of a relation says
abbrev pub relation_entry : List ℕ → Option Entry
relation_entry bytes = do
  fields ← message_fields bytes
  id ← needed 1 fields
  roles ← repeated 8 fields
  ids ← repeated 9 fields
  kinds ← repeated 10 fields
  entry_with (int64 id)
      (Having (entry_members (map int32 kinds) (summed w64 (map unzigzagged ids)) (map int32 roles)))
      ((length kinds == length ids) && (length roles == length ids))
      fields
