-- What a writer put into its sink since it was made.
-- Here the items are one list, and their text that of a file; the code puts a line at a time, and keeps no item.
use Rattle.std.specs.Prelude.{◌≡◌, ℕ, List, Option}
use Rattle.std.specs.Io.KnownBytes.{append_known}
use Rattle.std.specs.List.{flat_map}
use Rattle.osm_entity.specs.Items.{ItemValue}
use Rattle.osm_host.specs.Puts.{TakesPrefix}
use Rattle.osm_opl_line.specs.Writing.{line_text}

-- since it had taken `first`, a sink took the lines of these items
abbrev pub TookItems : Option (List ℕ) → Option (List ℕ) → List ItemValue → Type 0
TookItems first now items = now ≡ append_known first (flat_map line_text items)

-- since it had taken `first`, a sink took a prefix of the lines of these items
abbrev pub TookSome : Option (List ℕ) → Option (List ℕ) → List ItemValue → Type 0
TookSome first now items = TakesPrefix (flat_map line_text items) first now
