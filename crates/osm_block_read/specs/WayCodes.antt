-- The message of a way, field by field.
-- Here what was read is what the fields before said; the definition of a way looks up each field in the whole message.
use Rattle.std.specs.Prelude.{ℕ, ℤ, ◌==◌, ◌&&◌, Bool, true, List, [], length, map, option_to_list, Option, Some, None}
use Rattle.std.specs.Int.{w64}
use Rattle.osm_wire.specs.Entries.{◌>>=◌, all_bytes, at_most_one, message_fields, number_given, repeated, said_or}
use Rattle.osm_wire.specs.Integers.{int64, unzigzagged}
use Rattle.osm_wire.specs.Messages.{FieldValue}
use Rattle.osm_block_read.specs.Entries.{Along, Entry, EntryBody}
use Rattle.osm_block_read.specs.Numbers.{summed}
use Rattle.osm_block_read.specs.Plain.{entry_tags, info, no_info}
use Rattle.osm_block_read.specs.Told.{behind}
use Rattle.osm_block_read.specs.declared.entry.EntryInfo.{EntryInfo}

-- what the message of a way says: codes, and its message of metadata
pub record WayCodes : Type 0 where
  pub id : ℕ
  pub refs : List ℕ
  pub keys : List ℕ
  pub values : List ℕ
  pub described : Option (List ℕ)

-- the bytes of a field that is given at most once, by the fields to come, where those before them had it or not
abbrev pub single_behind : Option (List ℕ) → ℕ → List FieldValue → Option (Option (List ℕ))
single_behind before number fields = behind (option_to_list before) (all_bytes number fields) >>= at_most_one

-- what a way says, where each part is there
abbrev pub way_of_codes : Option (Option ℕ) → (refs keys values : Option (List ℕ)) → Option (Option (List ℕ)) →
    Option WayCodes
way_of_codes id refs keys values described = do
  given ← id
  id ← given
  refs ← refs
  keys ← keys
  values ← values
  described ← described
  Some (record { id = id; refs = refs; keys = keys; values = values; described = described })

-- what a way says by the fields to come, where those before them said this
abbrev pub way_behind : Option ℕ → (refs keys values : List ℕ) → Option (List ℕ) → List FieldValue → Option WayCodes
way_behind id refs keys values described fields =
    way_of_codes (number_given id 1 fields) (behind refs (repeated 8 fields)) (behind keys (repeated 2 fields))
    (behind values (repeated 3 fields))
    (single_behind described 4 fields)

-- what the message of a way says
abbrev pub way_said : List ℕ → Option WayCodes
way_said bytes = message_fields bytes >>= way_behind None [] [] [] None

-- an entity with the tags of these keys and values
abbrev pub entry_tagged : ℤ → EntryBody → Bool → (keys values : List ℕ) → EntryInfo → Entry
entry_tagged id body even keys values known = record {
  even = even && (length keys == length values);
  id = id;
  info = known;
  tags = entry_tags keys values;
  body = body;
}

-- the entry of a way, by what it says
abbrev pub way_told : WayCodes → Option Entry
way_told way =
    said_or no_info info way.described >>= (λ known. Some (entry_tagged (int64 way.id)
    (Along (summed w64 (map unzigzagged way.refs))) true way.keys way.values known))
