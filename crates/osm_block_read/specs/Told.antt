-- What the fields of a message tell, as they are read one after the other.
-- Here the fields that are still to come are a list; the code has the bytes that they stand in.
use Rattle.std.specs.Prelude.{ℕ, ◌≡◌, ◌<◌, List, ◌∷◌, ◌++◌, length, Option}
use Rattle.std.specs.Option.{option_map}
use Rattle.osm_entity.specs.declared.verdict.Cause.TheVariants.{BadText, BadWire}
use Rattle.osm_wire.specs.Entries.{all_bytes}
use Rattle.osm_wire.specs.Messages.{FieldValue}
use Rattle.osm_block_read.specs.declared.error.BlockError.{BlockError}
use Rattle.osm_block_read.specs.declared.error.BlockError.TheVariants.{Bad, Memory}

-- a field's entries that are still to come: its number, and the fields of its message that are still to come
pub record EntriesValue : Type 0 where
  pub number : ℕ
  pub fields : List FieldValue

-- the entries that are still to come, each as its bytes; None where one isn't bytes
abbrev pub bytes_to_come : EntriesValue → Option (List (List ℕ))
bytes_to_come e = all_bytes e.number e.fields

-- an entry that came before those that are still to come
pub record IsNextEntry (entry : List ℕ) (old new : EntriesValue) : Type 0 where
  pub entries : bytes_to_come old ≡ option_map (λ more. entry ∷ more) (bytes_to_come new)
  pub fewer : length new.fields < length old.fields

-- a list behind another, where it is there
abbrev pub behind : {T : Type 0} → List T → Option (List T) → Option (List T)
behind first more = option_map (λ rest. first ++ rest) more

-- a refusal that isn't out of memory is that of a text that isn't UTF-8, and this holds
abbrev pub BadTextWhere : Type 0 → BlockError → Type 0
BadTextWhere P (Bad cause) = (cause ≡ BadText) × P
BadTextWhere P Memory = Unit {0}

-- a refusal that isn't out of memory is that of a message that isn't well formed, and this holds
abbrev pub BadWireWhere : Type 0 → BlockError → Type 0
BadWireWhere P (Bad cause) = (cause ≡ BadWire) × P
BadWireWhere P Memory = Unit {0}
