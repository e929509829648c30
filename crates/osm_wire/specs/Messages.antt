-- Messages: fields one after the other, each a tag and a payload.
-- Here a message is whole, and its fields are those that its bytes spell; the code cuts slice after slice.
use Rattle.std.specs.Prelude.{ℕ, ◌+◌, ◌/◌, ◌%◌, ◌*◌, ◌^◌, ◌≡◌, ◌<◌, ◌==◌, ◌||◌, ◌++◌, List, Option, Some, None, Result, Ok, Err, length, take, drop, nat_lt, nat_le, if◌then◌else◌}
use Rattle.osm_wire.specs.declared.error.WireError.{WireError}
use Rattle.osm_wire.specs.declared.error.WireError.TheVariants.{Short, Group, BadWire}
use Rattle.osm_wire.specs.Pieces.{Pieces, SpellsAll, pieces_of}
use Rattle.osm_wire.specs.Varints.{SpellsNumber, leading_number}

-- what a field holds: a number, eight bytes, some bytes or four bytes
pub data Payload : Type 0 where
  Varint : (n : ℕ) → Payload
  Fixed64 : (eight : List ℕ) → Payload
  Bytes : (content : List ℕ) → Payload
  Fixed32 : (four : List ℕ) → Payload

-- a field: its number and what it holds
pub record FieldValue : Type 0 where
  pub number : ℕ
  pub value : Payload

-- the wire type of a payload
abbrev pub wire_type : Payload → ℕ
wire_type (Varint n) = 0
wire_type (Fixed64 eight) = 1
wire_type (Bytes content) = 2
wire_type (Fixed32 four) = 5

-- the tag of a field: its number times 8 plus its wire type
abbrev pub field_tag : FieldValue → ℕ
field_tag field = field.number * 8 + wire_type field.value

-- a field's number is from 1 to 2^29 - 1, so its tag has 32 bits
abbrev pub IsFieldNumber : ℕ → Type 0
IsFieldNumber number = (0 < number) × (number < 2 ^ 29)

-- bytes spell a payload: as a varint, as the eight bytes, as a length and then that number of bytes, or as the four
-- bytes
abbrev pub SpellsPayload : List ℕ → Payload → Type 0
SpellsPayload bytes (Varint n) = SpellsNumber bytes n
SpellsPayload bytes (Fixed64 eight) = (bytes ≡ eight) × (length eight ≡ 8)
SpellsPayload bytes (Bytes content) = (size : List ℕ) × (bytes ≡ size ++ content) × SpellsNumber size (length content)
SpellsPayload bytes (Fixed32 four) = (bytes ≡ four) × (length four ≡ 4)

-- bytes spell a field: its tag and then its payload
pub record SpellsField (bytes : List ℕ) (field : FieldValue) : Type 0 where
  pub tag : List ℕ
  pub payload : List ℕ
  pub joined : bytes ≡ tag ++ payload
  pub numbered : IsFieldNumber field.number
  pub tagged : SpellsNumber tag (field_tag field)
  pub held : SpellsPayload payload field.value

-- bytes spell fields one after the other
abbrev pub Spells : List ℕ → List FieldValue → Type 0
Spells bytes fields = SpellsAll SpellsField bytes fields

-- why a tag begins no field: its number is 0, it has more than 32 bits, its type is 6 or 7, or it is that of a group
abbrev pub tag_fault : ℕ → Option WireError
tag_fault tag =
    if nat_lt tag 8 || nat_le (2 ^ 32) tag || nat_le 6 (tag % 8) then Some BadWire
    else if tag % 8 == 3 || tag % 8 == 4 then Some Group
    else None

-- a number as a payload
abbrev pub varint_payload : Result (ℕ × ℕ) WireError → Result (Payload × ℕ) WireError
varint_payload (Err error) = Err error
varint_payload (Ok (n, size)) = Ok (Varint n, size)

-- the payload of the given number of bytes at the beginning of bytes
abbrev pub sized_payload : ℕ → (List ℕ → Payload) → List ℕ → Result (Payload × ℕ) WireError
sized_payload size holding bytes =
    if nat_lt (length bytes) size then Err Short else Ok (holding (take size bytes), size)

-- a payload after its length, which took some bytes
abbrev pub counted_payload : List ℕ → Result (ℕ × ℕ) WireError → Result (Payload × ℕ) WireError
counted_payload bytes (Err error) = Err error
counted_payload bytes (Ok (count, size)) =
    if nat_lt (length bytes) (size + count) then Err Short
    else Ok (Bytes (take count (drop size bytes)), size + count)

-- the payload of a wire type at the beginning of bytes, and how many bytes it takes
abbrev pub leading_payload : ℕ → List ℕ → Result (Payload × ℕ) WireError
leading_payload kind bytes =
    if kind == 0 then varint_payload (leading_number bytes)
    else if kind == 1 then sized_payload 8 Fixed64 bytes
    else if kind == 2 then counted_payload bytes (leading_number bytes)
    else sized_payload 4 Fixed32 bytes

-- a payload as that of the field of a number, whose tag took some bytes
abbrev pub numbered_field : ℕ → ℕ → Result (Payload × ℕ) WireError → Result (FieldValue × ℕ) WireError
numbered_field number size (Err error) = Err error
numbered_field number size (Ok (payload, more)) = Ok (record { number = number; value = payload }, size + more)

-- the field behind a tag that took some bytes, where the tag begins one
abbrev pub tagged_field : Option WireError → ℕ → ℕ → List ℕ → Result (FieldValue × ℕ) WireError
tagged_field (Some error) tag size bytes = Err error
tagged_field None tag size bytes = numbered_field (tag / 8) size (leading_payload (tag % 8) (drop size bytes))

-- the field behind the number at the beginning of bytes
abbrev pub field_behind : Result (ℕ × ℕ) WireError → List ℕ → Result (FieldValue × ℕ) WireError
field_behind (Err error) bytes = Err error
field_behind (Ok (tag, size)) bytes = tagged_field (tag_fault tag) tag size bytes

-- the field at the beginning of bytes, and how many bytes it takes
unfoldable pub leading_field : List ℕ → Result (FieldValue × ℕ) WireError
leading_field bytes = field_behind (leading_number bytes) bytes

-- the good fields of a message, and why they aren't the whole message
abbrev pub good_front : List ℕ → Pieces FieldValue
good_front message = pieces_of leading_field message

-- the numbers of a packed payload, and why they aren't the whole payload
abbrev pub packed_pieces : List ℕ → Pieces ℕ
packed_pieces bytes = pieces_of leading_number bytes
