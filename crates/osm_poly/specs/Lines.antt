-- Lines of polygon files, without blanks at both ends, and with their numbers.
-- Here all lines stand in one list; the code goes from line to line.
use Rattle.std.specs.Prelude.{ℕ, ◌-◌, List, [], ◌∷◌, map, length, take, drop, Bool, not, ◌||◌, ◌==◌, nat_lt, if◌then◌else◌}
use Rattle.std.specs.List.{slice_split, filter, enumerate_from, position_or_len, suffix_len}
use Rattle.osm_entity.specs.Ascii.{carriage_return, newline, tab, space}

-- a byte that is dropped at both ends of a line: a space, a tab or a carriage return
abbrev pub is_blank_byte : ℕ → Bool
is_blank_byte b = (b == space) || (b == tab) || (b == carriage_return)

-- a byte that is kept at both ends of a line
abbrev pub is_ink : ℕ → Bool
is_ink b = not (is_blank_byte b)

-- a line without the blanks at its end
abbrev pub end_stripped : List ℕ → List ℕ
end_stripped line = take (length line - suffix_len is_blank_byte line) line

-- a line without the blanks at both ends
abbrev pub stripped : List ℕ → List ℕ
stripped line = end_stripped (drop (position_or_len is_ink line) line)

-- the lines of a file's pieces: what follows the last newline counts where it isn't empty
abbrev pub file_lines : List (List ℕ) → List (List ℕ)
file_lines [] = []
file_lines (rest ∷ []) = if nat_lt 0 (length rest) then rest ∷ [] else []
file_lines (line ∷ part ∷ parts) = line ∷ file_lines (part ∷ parts)

-- the lines of a polygon file, without the blanks at both ends of each
abbrev pub poly_lines : List ℕ → List (List ℕ)
poly_lines bytes = file_lines (map stripped (slice_split (λ b. b == newline) bytes))

-- the numbered lines that aren't empty
abbrev pub said : List (ℕ × List ℕ) → List (ℕ × List ℕ)
said lines = filter (λ line. nat_lt 0 (length line.1)) lines

-- the lines of bytes that aren't empty, where the first line has this number
abbrev pub said_from : ℕ → List ℕ → List (ℕ × List ℕ)
said_from first bytes = said (enumerate_from first (poly_lines bytes))

-- the lines after a polygon file's first, which is its name even where empty: those that aren't empty, with their
-- numbers from 1
abbrev pub said_after_name : List ℕ → List (ℕ × List ℕ)
said_after_name bytes = said (drop 1 (enumerate_from 1 (poly_lines bytes)))
