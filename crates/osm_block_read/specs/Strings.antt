-- The string table of a block: its texts, which all else names by their places.
-- Here the texts are lists of bytes; the code has where they lie in the block.
use Rattle.std.specs.Prelude.{ℕ, List, Option}
use Rattle.osm_wire.specs.Entries.{◌>>=◌, all_bytes, message_fields}

-- the texts of a string table; None where it isn't well formed
abbrev pub table_texts : List ℕ → Option (List (List ℕ))
table_texts bytes = message_fields bytes >>= all_bytes 1
