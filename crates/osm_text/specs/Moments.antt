-- Seconds since 1970-01-01T00:00:00Z, as the library counts them: before that they are negative.
-- Here a moment is a number with a sign; the code asks whether 32 bits without one hold it.
use Rattle.std.specs.Prelude.{ℕ, ℤ, pos, negsuc, Option, None}
use Rattle.osm_text.specs.Times.{fitting_time}

-- seconds from 1970 on, below 2^32
abbrev pub fitting_seconds : ℤ → Option ℕ
fitting_seconds (pos seconds) = fitting_time seconds
fitting_seconds (negsuc before) = None
