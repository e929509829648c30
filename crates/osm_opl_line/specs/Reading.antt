-- What an OPL file says: its items up to its first bad line, and how the reading ends.
-- Here the whole file is cut at once at its newlines; the code goes from line to line.
use Rattle.std.specs.Prelude.{ℕ, ◌+◌, List, [], ◌∷◌, length, Bool, ◌&&◌, ◌||◌, ◌==◌, nat_lt, if◌then◌else◌}
use Rattle.std.specs.List.{slice_split}
use Rattle.osm_entity.specs.Ascii.{newline}
use Rattle.osm_entity.specs.Readings.{Reading, Bad as BadAt, ending_of}
use Rattle.osm_entity.specs.declared.kind.Flow.{Flow}
use Rattle.osm_entity.specs.declared.verdict.Spot.TheVariants.{Line}
use Rattle.osm_opl_line.specs.Line.{LineValue, Skipped, Good, Bad, longest_line, opl_line}

-- the bytes after the last newline are a line if there are any and the file ended cleanly, or if they are too many
abbrev pub is_line : Bool → List ℕ → Bool
is_line clean rest = clean && nat_lt 0 (length rest) || nat_lt longest_line (length rest)

-- the lines of a file's pieces
abbrev pub lines_of : Bool → List (List ℕ) → List (List ℕ)
lines_of clean [] = []
lines_of clean (rest ∷ []) = if is_line clean rest then rest ∷ [] else []
lines_of clean (line ∷ part ∷ parts) = line ∷ lines_of clean (part ∷ parts)

-- a line of this number before a reading of the lines after it
abbrev pub before : ℕ → LineValue → Reading → Reading
before number Skipped reading = reading
before number (Good item) reading = record { items = item ∷ reading.items; ending = reading.ending }
before number (Bad cause) reading = record { items = []; ending = BadAt cause (Line number) }

-- the reading of lines, the first of which has this number
abbrev pub read_lines : Flow → Bool → ℕ → List (List ℕ) → Reading
read_lines flow clean number [] = record { items = []; ending = ending_of clean }
read_lines flow clean number (line ∷ lines) =
    before number (opl_line flow line) (read_lines flow clean (number + 1) lines)

-- what bytes say as a file of this flow; `clean` says that they are all of it
unfoldable pub opl_reading : Flow → List ℕ → Bool → Reading
opl_reading flow bytes clean = read_lines flow clean 1 (lines_of clean (slice_split (λ b. b == newline) bytes))
