-- Where a text has its bytes. No public clause cites these definitions.
-- Here the bytes are one list; the code has the short ones beside their number, and the long ones in a block of memory.
use Rattle.std.specs.Prelude.{ℕ, ◌≤◌, List, take}
use Rattle.std.specs.Str.{IsUtf8}
use Rattle.osm_entity.specs.declared.storage.Storage.{Storage}
use Rattle.osm_entity.specs.declared.storage.Storage.TheVariants.{Short, Long}

-- how many bytes a text holds without a block of memory
abbrev pub text_room : ℕ
text_room = 22

-- the bytes of a text, wherever they are
abbrev pub stored_bytes : Storage → List ℕ
stored_bytes (Short len bytes) = take len bytes
stored_bytes (Long bytes) = bytes.value.items

-- bytes that are held without a block are no more than there is room for
abbrev pub FitsRoom : Storage → Type 0
FitsRoom (Short len bytes) = len ≤ text_room
FitsRoom (Long bytes) = Unit {0}

-- the bytes fit where they are, and are UTF-8
pub record IsStoredText (s : Storage) : Type 0 where
  pub fits : FitsRoom s
  pub utf8 : IsUtf8 (stored_bytes s)
