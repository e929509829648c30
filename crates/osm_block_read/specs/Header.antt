-- A header block: what it requires of its reader, and whether that is known.
-- Here each check goes through all required features; None stands for a message that isn't well formed.
use Rattle.std.specs.Prelude.{ℕ, List, ◌||◌, not, Bool, codes, Option, Some, None, if◌then◌else◌}
use Rattle.std.specs.List.{list_all}
use Rattle.std.specs.Str.{bytes_eq, is_utf8}
use Rattle.osm_entity.specs.declared.verdict.Cause.{Cause}
use Rattle.osm_entity.specs.declared.verdict.Cause.TheVariants.{BadWire, BadText, BadFeature}
use Rattle.osm_wire.specs.Entries.{◌>>=◌, message_fields, all_bytes, single_bytes}

-- the required features of a header block, which may have one bounding box; None where it isn't well formed
abbrev pub required_features : List ℕ → Option (List (List ℕ))
required_features bytes = do
  fields ← message_fields bytes
  box ← single_bytes 1 fields
  all_bytes 4 fields

-- the features that are known: the schema of version 0.6, and dense nodes
abbrev pub is_known_feature : List ℕ → Bool
is_known_feature feature = bytes_eq feature (codes "OsmSchema-V0.6") || bytes_eq feature (codes "DenseNodes")

-- what is wrong with required features: first that one isn't UTF-8, then that one isn't known
abbrev pub features_fault : Option (List (List ℕ)) → Option Cause
features_fault None = Some BadWire
features_fault (Some features) =
    if not (list_all is_utf8 features) then Some BadText
    else if not (list_all is_known_feature features) then Some BadFeature
    else None

-- what is wrong with the bytes of a header block
unfoldable pub header_fault : List ℕ → Option Cause
header_fault bytes = features_fault (required_features bytes)
