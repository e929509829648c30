-- Escaped texts of OPL, both ways: a code point as %hex%.
-- Here a text is cut at once at each %; the code goes from one escape to the next.
use Rattle.std.specs.Prelude.{ℕ, List, [], ◌∷◌, ◌++◌, length, Bool, false, ◌&&◌, ◌||◌, ◌==◌, nat_lt, nat_le, if◌then◌else◌, Option, Some, None}
use Rattle.std.specs.Char.{is_digit, encode_utf8}
use Rattle.std.specs.Fmt.{digits, ◌++?◌}
use Rattle.std.specs.List.{flat_map, list_all, slice_split}
use Rattle.std.specs.Option.{option_map}
use Rattle.std.specs.Str.Parse.{digits_value}
use Rattle.osm_entity.specs.Ascii.{space, percent_sign, comma, equals_sign, at_sign, delete_character}

-- the code points 0 to 32 and 127, and the characters % , = @
abbrev pub is_reserved : ℕ → Bool
is_reserved b =
    nat_le b space || b == percent_sign || b == comma || b == equals_sign || b == at_sign || b == delete_character

-- a code point in hexadecimal digits between two %
abbrev pub hex_escape : ℕ → List ℕ
hex_escape n = percent_sign ∷ digits 16 false n ++ percent_sign ∷ []

-- a reserved byte as %hex%, any other as it is
abbrev pub escaped_byte : ℕ → List ℕ
escaped_byte b = if is_reserved b then hex_escape b else b ∷ []

-- each byte of the text in its escaped form
abbrev pub escaped : List ℕ → List ℕ
escaped text = flat_map escaped_byte text

-- one to eight hexadecimal digits
abbrev pub are_hex : List ℕ → Bool
are_hex bytes = nat_lt 0 (length bytes) && nat_le (length bytes) 8 && list_all (λ c. is_digit c 16) bytes

-- a number is that of a character: at most 0x10FFFF, and not from 0xD800 to 0xDFFF
abbrev pub is_char : ℕ → Bool
is_char n = nat_lt n 0xD800 || nat_le 0xE000 n && nat_le n 0x10FFFF

-- the number that stands between two %, where it is that of a character
abbrev pub escape_code : List ℕ → Option ℕ
escape_code bytes = if are_hex bytes && is_char (digits_value 16 bytes) then Some (digits_value 16 bytes) else None

-- the parts around each %: plain text and code points in turn, with plain text at both ends
abbrev pub unescaped_parts : List (List ℕ) → Option (List ℕ)
unescaped_parts [] = None
unescaped_parts (plain ∷ []) = Some plain
unescaped_parts (plain ∷ code ∷ parts) =
    Some plain ++? option_map encode_utf8 (escape_code code) ++? unescaped_parts parts

-- a text with a character in the place of each %hex%, where each % belongs to one
abbrev pub unescaped : List ℕ → Option (List ℕ)
unescaped text = unescaped_parts (slice_split (λ b. b == percent_sign) text)
