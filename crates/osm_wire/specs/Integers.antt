-- Whole numbers as varints code them: by their low bits, or by zigzag.
-- Here a number is taken to a width by division; the code casts it.
use Rattle.std.specs.Prelude.{ℕ, ℤ, pos, negsuc, ◌==◌, ◌+◌, ◌*◌, ◌/◌, ◌%◌, ◌^◌, Bool, not, if◌then◌else◌}
use Rattle.std.specs.Int.{w32, w64, cast_signed}

-- the zigzag code of a signed number: 0, -1, 1, -2 are 0, 1, 2, 3
abbrev pub zigzagged : ℤ → ℕ
zigzagged (pos n) = 2 * n
zigzagged (negsuc n) = 2 * n + 1

-- the signed number of a zigzag code: 0, 1, 2, 3 are 0, -1, 1, -2
abbrev pub unzigzagged : ℕ → ℤ
unzigzagged code = if code % 2 == 0 then pos (code / 2) else negsuc (code / 2)

-- the low 32 bits of a varint
abbrev pub uint32 : ℕ → ℕ
uint32 n = n % 2 ^ 32

-- the low 32 bits of a varint as a signed number
abbrev pub int32 : ℕ → ℤ
int32 n = cast_signed w32 (uint32 n)

-- the 64 bits of a varint as a signed number
abbrev pub int64 : ℕ → ℤ
int64 n = cast_signed w64 n

-- the low 32 bits of a varint as a zigzag code
abbrev pub sint32 : ℕ → ℤ
sint32 n = unzigzagged (uint32 n)

-- a varint is true where it isn't 0
abbrev pub truth : ℕ → Bool
truth n = not (n == 0)
