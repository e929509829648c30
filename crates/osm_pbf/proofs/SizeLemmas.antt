-- How many bytes fields of messages have at most.
use Rattle.std.proofs.Common.{◌≡◌, ℕ, ◌+◌, ◌*◌, ◌<◌, ◌≤◌, List, [], ◌∷◌, ◌++◌, length, map, refl, ap, ◌∙◌, suc, zero, arith}
use Rattle.std.specs.Prelude.{ℤ, pos, ◌%◌, ◌/◌, nat_lt}
use Rattle.std.specs.Int.{Width, int_wrap}
use Rattle.std.proofs.lemmas.Bool.{cond_both}
use Rattle.std.proofs.lemmas.List.{length-append, length-map}
use Rattle.std.proofs.lemmas.List.Concat.{flat_map-append}
use Rattle.osm_wire.specs.Integers.{zigzagged}
use Rattle.osm_wire.specs.Messages.{FieldValue, field_tag}
use Rattle.osm_wire.specs.Written.{packed, shortest_varint, varint_within, written_field, written_message, written_payload}
use Rattle.osm_wire.proofs.WrittenLemmas.{shortest_varint-small}
use Rattle.osm_block_write.specs.Columns.{bytes_field, delta_field, deltas, differences_from, number_field, packed_field}

-- a varint within a number of bytes
varint_within-size : (most n : ℕ) → length (varint_within most n) ≤ most
varint_within-size zero n = omega arith
varint_within-size (suc most) n =
    cond_both (nat_lt n 128) (n ∷ []) ((n % 128 + 128) ∷ varint_within most (n / 128))
    (λ bytes. length bytes ≤ suc most) (λ _. omega arith) (λ _. omega (arith, varint_within-size most (n / 128)))

-- a varint has ten bytes at most
pub varint-size : (n : ℕ) → length (shortest_varint n) ≤ 10
unfolding shortest_varint
varint-size n = varint_within-size 10 n

-- a field is its tag and its payload
field-size : (field : FieldValue) →
    length (written_field field) ≡ length (shortest_varint (field_tag field)) + length (written_payload field.value)
field-size field = length-append (shortest_varint (field_tag field)) (written_payload field.value)

-- the tag of a field of a low number is one byte
tag-size : (field : FieldValue) → field_tag field < 128 → length (shortest_varint (field_tag field)) ≡ 1
tag-size field low = ap length (shortest_varint-small (field_tag field) low)

-- a number, under any number of a field
pub number-size : (number n : ℕ) → length (written_field (number_field number n)) ≤ 20
number-size number n = omega (
  arith,
  field-size (number_field number n),
  varint-size (field_tag (number_field number n)),
  varint-size n,
)

-- a number, under a low number of a field
pub low_number-size : (number n : ℕ) → number < 16 → length (written_field (number_field number n)) ≤ 11
low_number-size number n low = omega (
  arith,
  field-size (number_field number n),
  tag-size (number_field number n) (omega (arith, low)),
  varint-size n,
)

-- bytes, under a low number of a field
pub bytes-size : (number : ℕ) (bytes : List ℕ) → number < 16 →
    length (written_field (bytes_field number bytes)) ≤ 11 + length bytes
bytes-size number bytes low = omega (
  arith,
  field-size (bytes_field number bytes),
  tag-size (bytes_field number bytes) (omega (arith, low)),
  length-append (shortest_varint (length bytes)) bytes,
  varint-size (length bytes),
)

-- a field and those behind it
pub message-next : (field : FieldValue) (more : List FieldValue) →
    length (written_message (field ∷ more)) ≡ length (written_field field) + length (written_message more)
message-next field more = length-append (written_field field) (written_message more)

-- fields and those behind them
pub message-append : (first more : List FieldValue) →
    length (written_message (first ++ more)) ≡ length (written_message first) + length (written_message more)
message-append first more =
    ap length (flat_map-append written_field first more)
    ∙ length-append (written_message first) (written_message more)

-- packed numbers
pub packed-size : (numbers : List ℕ) → length (packed numbers) ≤ 10 * length numbers
packed-size [] = omega arith
packed-size (n ∷ numbers) = omega (
  arith,
  length-append (shortest_varint n) (packed numbers),
  varint-size n,
  packed-size numbers,
)

-- the field of packed numbers
pub packed_field-size : (number : ℕ) (numbers : List ℕ) → number < 16 →
    length (written_message (packed_field number numbers)) ≤ 11 + 10 * length numbers
packed_field-size number [] low = omega arith
packed_field-size number (n ∷ numbers) low = omega (
  arith,
  message-next (bytes_field number (packed (n ∷ numbers))) [],
  bytes-size number (packed (n ∷ numbers)) low,
  packed-size (n ∷ numbers),
)

-- there are as many differences as numbers
pub differences-length : (before : ℤ) (numbers : List ℤ) → length (differences_from before numbers) ≡ length numbers
differences-length before [] = refl
differences-length before (n ∷ numbers) = ap suc (differences-length n numbers)

-- the field of delta coded numbers
pub delta_field-size : (w : Width) (number : ℕ) (numbers : List ℤ) → number < 16 →
    length (written_message (delta_field w number numbers)) ≤ 11 + 10 * length numbers
delta_field-size w number numbers low = omega (
  arith,
  packed_field-size number (map zigzagged (deltas w numbers)) low,
  length-map (deltas w numbers) zigzagged,
  length-map (differences_from (pos 0) numbers) (int_wrap w),
  differences-length (pos 0) numbers,
)
