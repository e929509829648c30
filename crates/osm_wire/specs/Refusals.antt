-- Why bytes begin with no field: what the code answers where it cuts no further.
-- Here bytes are looked at whole, and parted as a field is spelled; the code stops where it can't go on.
use Rattle.std.specs.Prelude.{ℕ, ◌%◌, ◌≡◌, ◌<◌, List, ◌++◌, Some, None, length, take, slice_index}
use Rattle.std.specs.List.{position}
use Rattle.osm_wire.specs.declared.error.WireError.{WireError}
use Rattle.osm_wire.specs.declared.error.WireError.TheVariants.{Short, Overlong, Group, BadWire}
use Rattle.osm_wire.specs.Pieces.{Pieces, IsGoodPieces}
use Rattle.osm_wire.specs.Messages.{FieldValue, SpellsField, tag_fault}
use Rattle.osm_wire.specs.Varints.{SpellsNumber, is_last_byte}

-- bytes begin with no number: they end within it, or it has more than ten bytes or a tenth above 1
abbrev pub RefusesNumber : List ℕ → WireError → Type 0
RefusesNumber bytes Short = (length bytes < 10) × (position is_last_byte bytes ≡ None)
RefusesNumber bytes Overlong =
    (9 < length bytes) × (position is_last_byte (take 9 bytes) ≡ None) × (1 < slice_index bytes 9)
RefusesNumber bytes Group = ⊥
RefusesNumber bytes BadWire = ⊥

-- bytes hold no payload of a wire type: no varint, too few bytes, no length, or fewer bytes than it says
pub data RefusesPayload : ℕ → List ℕ → WireError → Type 0 where
  no_varint : {bytes : List ℕ} {error : WireError} → RefusesNumber bytes error → RefusesPayload 0 bytes error
  not_eight : {bytes : List ℕ} → length bytes < 8 → RefusesPayload 1 bytes Short
  no_length : {bytes : List ℕ} {error : WireError} → RefusesNumber bytes error → RefusesPayload 2 bytes error
  cut_off : {size : List ℕ} {count : ℕ} (content : List ℕ) →
      SpellsNumber size count → length content < count → RefusesPayload 2 (size ++ content) Short
  not_four : {bytes : List ℕ} → length bytes < 4 → RefusesPayload 5 bytes Short

-- bytes begin with no field: with no tag, with a tag that begins none, or with a tag that has no payload
pub data RefusesField : List ℕ → WireError → Type 0 where
  no_tag : {bytes : List ℕ} {error : WireError} → RefusesNumber bytes error → RefusesField bytes error
  bad_tag : {tag : List ℕ} {n : ℕ} {error : WireError} (rest : List ℕ) →
      SpellsNumber tag n → tag_fault n ≡ Some error → RefusesField (tag ++ rest) error
  no_payload : {tag : List ℕ} {n : ℕ} {error : WireError} (rest : List ℕ) →
      SpellsNumber tag n → tag_fault n ≡ None → RefusesPayload (n % 8) rest error → RefusesField (tag ++ rest) error

-- the good fields of a message
abbrev pub IsMessagePieces : List ℕ → Pieces FieldValue → Type 0
IsMessagePieces message pieces = IsGoodPieces SpellsField RefusesField message pieces

-- the good numbers of a packed payload
abbrev pub IsPackedPieces : List ℕ → Pieces ℕ → Type 0
IsPackedPieces bytes pieces = IsGoodPieces SpellsNumber RefusesNumber bytes pieces
