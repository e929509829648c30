-- The bytes of a line, before it is cut.
-- Here each byte is tested alone; the code tests sixteen at once.
use Rattle.std.specs.Prelude.{ℕ, ◌≡◌, ◌≤◌, ◌<◌, List, Bool, true, ◌&&◌, nat_lt, not, Option, Some, None, if◌then◌else◌, slice_index}
use Rattle.std.specs.List.{list_any}
use Rattle.std.specs.Str.{is_utf8}
use Rattle.osm_entity.specs.declared.verdict.Cause.{Cause}
use Rattle.osm_entity.specs.declared.verdict.Cause.TheVariants.{BadText, BadField}
use Rattle.osm_opl_line.specs.Line.{is_control}

-- a byte is ASCII and no control byte
abbrev pub is_plain_byte : ℕ → Bool
is_plain_byte b = not (is_control b) && nat_lt b 128

-- the bytes from one place up to another are plain
abbrev pub ArePlain : List ℕ → ℕ → ℕ → Type 0
ArePlain line from end = (k : ℕ) → from ≤ k → k < end → is_plain_byte (slice_index line k) ≡ true

-- what is wrong with the bytes of a line: they aren't UTF-8, or there is a control byte among them
abbrev pub byte_fault : List ℕ → Option Cause
byte_fault line =
    if not (is_utf8 line) then Some BadText
    else if list_any is_control line then Some BadField
    else None
