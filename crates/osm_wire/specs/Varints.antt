-- Varints: numbers of 64 bits in one to ten bytes.
-- Here a varint is a list of bytes and its number a sum; the code goes through the bytes with a shift.
use Rattle.std.specs.Prelude.{ℕ, ◌-◌, ◌+◌, ◌*◌, ◌%◌, ◌^◌, ◌≡◌, ◌≤◌, ◌<◌, List, [], ◌∷◌, Bool, Option, Some, None, Result, Ok, Err, length, take, nat_lt, if◌then◌else◌}
use Rattle.std.specs.List.{position}
use Rattle.osm_wire.specs.declared.error.WireError.{WireError}
use Rattle.osm_wire.specs.declared.error.WireError.TheVariants.{Short, Overlong}

-- the number that bytes stand for: seven bits a byte, the lowest first
abbrev pub varint_value : List ℕ → ℕ
varint_value [] = 0
varint_value (byte ∷ bytes) = byte % 128 + 128 * varint_value bytes

-- a byte below 128 is the last of its varint
abbrev pub is_last_byte : ℕ → Bool
is_last_byte byte = nat_lt byte 128

-- bytes spell a number: the last of them alone is below 128, they are at most ten, and the number has 64 bits
pub record SpellsNumber (bytes : List ℕ) (n : ℕ) : Type 0 where
  pub ended : position is_last_byte bytes ≡ Some (length bytes - 1)
  pub within : length bytes ≤ 10
  pub value : varint_value bytes ≡ n
  pub fits : n < 2 ^ 64

-- a number and how many bytes it takes, or Overlong where it has more than 64 bits
abbrev pub number_fitting : ℕ → ℕ → Result (ℕ × ℕ) WireError
number_fitting n size = if nat_lt n (2 ^ 64) then Ok (n, size) else Err Overlong

-- the number up to its last byte among the first ten; without one it is Overlong, or Short where there are fewer bytes
abbrev pub number_ending : List ℕ → Option ℕ → Result (ℕ × ℕ) WireError
number_ending bytes None = if nat_lt (length bytes) 10 then Err Short else Err Overlong
number_ending bytes (Some last) = number_fitting (varint_value (take (last + 1) bytes)) (last + 1)

-- the number at the beginning of bytes, and how many bytes it takes
unfoldable pub leading_number : List ℕ → Result (ℕ × ℕ) WireError
leading_number bytes = number_ending bytes (position is_last_byte (take 10 bytes))
