-- How contracts see fields and what is cut from bytes.
-- Here a field has bytes; the code has slices of the message.
use Rattle.std.specs.Prelude.{ℕ, Result, Ok, Err}
use Rattle.osm_wire.specs.declared.error.WireError.{WireError}
use Rattle.osm_wire.specs.declared.field.Field.{Field}
use Rattle.osm_wire.specs.declared.field.Value.{Value}
use Rattle.osm_wire.specs.declared.field.Value.TheVariants.{Varint as OfVarint, Fixed64 as OfFixed64, Bytes as OfBytes, Fixed32 as OfFixed32}
use Rattle.osm_wire.specs.Messages.{FieldValue, Payload, Varint, Fixed64, Bytes, Fixed32}

-- a value with the bytes of its slice
abbrev pub payload_seen : Value → Payload
payload_seen (OfVarint n) = Varint n
payload_seen (OfFixed64 eight) = Fixed64 eight.now
payload_seen (OfBytes content) = Bytes content.now
payload_seen (OfFixed32 four) = Fixed32 four.now

-- a field with the bytes of its slice
abbrev pub field_seen : Field → FieldValue
field_seen field = record { number = field.number; value = payload_seen field.value }

-- a value and how many bytes it takes, with the bytes of its slice
abbrev pub payload_cut : Result (Value × ℕ) WireError → Result (Payload × ℕ) WireError
payload_cut (Ok cut) = Ok (payload_seen cut.0, cut.1)
payload_cut (Err error) = Err error

-- a field and how many bytes it takes, with the bytes of its slice
abbrev pub field_cut : Result (Field × ℕ) WireError → Result (FieldValue × ℕ) WireError
field_cut (Ok cut) = Ok (field_seen cut.0, cut.1)
field_cut (Err error) = Err error
