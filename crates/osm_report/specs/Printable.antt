-- Lines of printable text.
-- Here a whole line is looked at; the code knows of each piece that it is printable.
use Rattle.std.specs.Prelude.{ℕ, List, [], ◌∷◌, length, Bool, false, ◌&&◌, nat_le, nat_lt, nat_eq}
use Rattle.std.specs.List.{list_all}
use Rattle.osm_entity.specs.Ascii.{newline, space, delete_character}

-- a printable byte of ASCII: from a space to a tilde
abbrev pub is_printable : ℕ → Bool
is_printable b = nat_le space b && nat_lt b delete_character

-- one line: printable bytes, and a newline as the last
abbrev pub is_one_line : List ℕ → Bool
is_one_line [] = false
is_one_line (b ∷ []) = nat_eq b newline
is_one_line (b ∷ c ∷ more) = is_printable b && is_one_line (c ∷ more)

-- the words of a cause: at most 32 printable bytes
abbrev pub are_words : List ℕ → Bool
are_words text = nat_le (length text) 32 && list_all is_printable text
