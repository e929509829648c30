-- Messages in their shortest spelling, as they are written.
-- Here the bytes follow from the fields; the code appends them part by part.
use Rattle.std.specs.Prelude.{ℕ, ◌+◌, ◌/◌, ◌%◌, ◌^◌, ◌≡◌, ◌<◌, List, [], ◌∷◌, ◌++◌, length, nat_lt, if◌then◌else◌}
use Rattle.std.specs.List.{flat_map}
use Rattle.std.proofs.Common.{suc, zero}
use Rattle.osm_wire.specs.Messages.{FieldValue, IsFieldNumber, Payload, Varint, Fixed64, Bytes, Fixed32, field_tag}

-- the spelling of a number without a byte too many, in at most the given number of bytes
abbrev pub varint_within : ℕ → ℕ → List ℕ
varint_within zero n = []
varint_within (suc more) n =
    if nat_lt n 128 then n ∷ [] else (n % 128 + 128) ∷ varint_within more (n / 128)

-- the shortest spelling of a number of 64 bits
unfoldable pub shortest_varint : ℕ → List ℕ
shortest_varint n = varint_within 10 n

-- a payload in its shortest spelling
abbrev pub written_payload : Payload → List ℕ
written_payload (Varint n) = shortest_varint n
written_payload (Fixed64 eight) = eight
written_payload (Bytes content) = shortest_varint (length content) ++ content
written_payload (Fixed32 four) = four

-- a field in its shortest spelling: its tag and then its payload
abbrev pub written_field : FieldValue → List ℕ
written_field field = shortest_varint (field_tag field) ++ written_payload field.value

-- a message in its shortest spelling
abbrev pub written_message : List FieldValue → List ℕ
written_message fields = flat_map written_field fields

-- numbers packed, each in its shortest spelling
abbrev pub packed : List ℕ → List ℕ
packed numbers = flat_map shortest_varint numbers

-- a payload can be written: its number or its length has 64 bits, or it has eight or four bytes
abbrev pub IsPayload : Payload → Type 0
IsPayload (Varint n) = n < 2 ^ 64
IsPayload (Fixed64 eight) = length eight ≡ 8
IsPayload (Bytes content) = length content < 2 ^ 64
IsPayload (Fixed32 four) = length four ≡ 4

-- a field can be written: its number is one of a field, and its payload can be written
abbrev pub IsField : FieldValue → Type 0
IsField field = IsFieldNumber field.number × IsPayload field.value
