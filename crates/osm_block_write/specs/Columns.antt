-- Fields of numbers as messages have them: as differences, by zigzag, and packed.
-- Here a column is a whole list; the code appends number after number.
use Rattle.std.specs.Prelude.{ℕ, ℤ, pos, ◌-ℤ◌, List, [], ◌∷◌, map}
use Rattle.std.specs.Int.{Width, int_wrap}
use Rattle.osm_wire.specs.Integers.{zigzagged}
use Rattle.osm_wire.specs.Messages.{Bytes, FieldValue, Varint}
use Rattle.osm_wire.specs.Written.{packed}

-- a field that holds a number
abbrev pub number_field : ℕ → ℕ → FieldValue
number_field number n = record { number = number; value = Varint n }

-- a field that holds bytes
abbrev pub bytes_field : ℕ → List ℕ → FieldValue
bytes_field number bytes = record { number = number; value = Bytes bytes }

-- the field of packed numbers; none where there are no numbers
abbrev pub packed_field : ℕ → List ℕ → List FieldValue
packed_field number [] = []
packed_field number (n ∷ more) = bytes_field number (packed (n ∷ more)) ∷ []

-- the differences of numbers: each from the one before it, and the first from this number
abbrev pub differences_from : ℤ → List ℤ → List ℤ
differences_from before [] = []
differences_from before (n ∷ more) = (n -ℤ before) ∷ differences_from n more

-- delta coded numbers: their differences, the first from 0, each kept to a width as a signed number
abbrev pub deltas : Width → List ℤ → List ℤ
deltas w numbers = map (int_wrap w) (differences_from (pos 0) numbers)

-- the field of signed numbers, delta coded, by zigzag and packed; none where there are no numbers
abbrev pub delta_field : Width → ℕ → List ℤ → List FieldValue
delta_field w number numbers = packed_field number (map zigzagged (deltas w numbers))
