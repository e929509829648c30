-- The numbers that an entity counts: its version, its user's id and its changeset.
-- Here each is a number below a limit; the code has them by types of 32 and 64 bits.
use Rattle.std.specs.Prelude.{ℕ, ℤ, pos, negsuc, ◌^◌, nat_lt, if◌then◌else◌, Option, Some, None}

-- the limit that versions and uids are below
abbrev pub count_limit : ℕ
count_limit = 2 ^ 31

-- the limit that changesets are below
abbrev pub changeset_limit : ℕ
changeset_limit = 2 ^ 63

-- what a file's number counts: itself, or 0 where it is negative
abbrev pub counted : ℤ → ℕ
counted (pos n) = n
counted (negsuc n) = 0

-- a version or uid, or none where the number is not below their limit
abbrev pub small_count : ℕ → Option ℕ
small_count n = if nat_lt n count_limit then Some n else None
