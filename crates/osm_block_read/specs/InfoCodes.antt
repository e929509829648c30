-- The metadata of an entity, field by field.
-- Here what was read is the codes of the fields before, and the last entry of each counts; the definition of metadata
-- looks up each field in the whole message.
use Rattle.std.specs.Prelude.{ℕ, pos, ◌^◌, ◌-◌, List, Option, Some}
use Rattle.osm_wire.specs.Entries.{◌>>=◌, scalar}
use Rattle.osm_wire.specs.Integers.{int32, int64, uint32, truth}
use Rattle.osm_wire.specs.Messages.{FieldValue}
use Rattle.osm_block_read.specs.declared.entry.EntryInfo.{EntryInfo}
use Rattle.osm_block_read.specs.declared.info_codes.InfoCodes.{InfoCodes}

-- the codes of metadata none of whose fields is given
abbrev pub no_codes : InfoCodes
no_codes = record { version = 2 ^ 32 - 1; timestamp = 0; changeset = 0; uid = 0; user = 0; visible = 1 }

-- metadata by its codes, where each is there
abbrev pub info_of_codes : (version timestamp changeset uid user visible : Option ℕ) → Option EntryInfo
info_of_codes version timestamp changeset uid user visible = do
  version ← version
  timestamp ← timestamp
  changeset ← changeset
  uid ← uid
  user ← user
  visible ← visible
  Some (record {
    version = int32 version;
    timestamp = int64 timestamp;
    changeset = int64 changeset;
    uid = int32 uid;
    user = pos (uint32 user);
    visible = truth visible;
  })

-- metadata by the fields to come, where those before them said these codes
abbrev pub info_behind : InfoCodes → List FieldValue → Option EntryInfo
info_behind codes fields =
    info_of_codes (scalar codes.version 1 fields) (scalar codes.timestamp 2 fields)
    (scalar codes.changeset 3 fields)
    (scalar codes.uid 4 fields)
    (scalar codes.user 5 fields)
    (scalar codes.visible 6 fields)
