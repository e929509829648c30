-- All nano numbers: degrees as texts with a sign, a point and an exponent, in nanodegrees.
-- Here the digits around the point are joined to one whole number; the code reads them on from the left.
use Rattle.std.specs.Prelude.{ℕ, ℤ, ◌+◌, ◌*◌, ◌/◌, ◌^◌, List, ◌++◌, length, drop, Bool, ◌||◌, ◌==◌, nat_lt, nat_le, if◌then◌else◌, Option, Some, None, slice_index}
use Rattle.std.specs.List.{position_or_len, before_first, after_first}
use Rattle.std.specs.Option.{option_map}
use Rattle.std.specs.Str.Parse.{digits_value}
use Rattle.osm_entity.specs.Ascii.{plus_sign, letter_e, capital_e, point}
use Rattle.osm_text.specs.Numbers.{are_digits, has_minus, signed}

-- a text begins with a minus or a plus
abbrev pub has_sign : List ℕ → Bool
has_sign bytes = has_minus bytes || (slice_index bytes 0 == plus_sign)

-- a text without its sign
abbrev pub without_sign : List ℕ → List ℕ
without_sign bytes = if has_sign bytes then drop 1 bytes else bytes

-- the letter before an exponent, e or E
abbrev pub is_letter : ℕ → Bool
is_letter b = (b == letter_e) || (b == capital_e)

-- the point between degrees and their decimals
abbrev pub is_point : ℕ → Bool
is_point b = b == point

-- an exponent is an optional sign and one to four digits
abbrev pub is_exponent : List ℕ → Bool
is_exponent text = are_digits 4 (without_sign text)

-- the places that an exponent moves the point to the right
abbrev pub places_right : List ℕ → ℕ
places_right text = if has_minus text then 0 else digits_value 10 (without_sign text)

-- the places that an exponent moves the point to the left
abbrev pub places_left : List ℕ → ℕ
places_left text = if has_minus text then digits_value 10 (without_sign text) else 0

-- a number of nanodegrees is at most 10^18
abbrev pub limited : ℕ → Option ℕ
limited n = if nat_le n (10 ^ 18) then Some n else None

-- the digits around a point as one number, in nanodegrees: for each place moved its tenfold or tenth, cut at the end
abbrev pub moved : List ℕ → List ℕ → ℕ → ℕ → ℕ
moved before after right left = digits_value 10 (before ++ after) * 10 ^ (9 + right) / 10 ^ (length after + left)

-- nanodegrees of digits around an optional point, one to 38 digits in all, with the point moved
abbrev pub nano_moved : List ℕ → ℕ → ℕ → Option ℕ
nano_moved number right left =
    if are_digits 38 (before_first is_point number ++ after_first is_point number)
    then limited (moved (before_first is_point number) (after_first is_point number) right left)
    else None

-- nanodegrees of a number and the exponent after its letter
abbrev pub nano_scaled : List ℕ → List ℕ → Option ℕ
nano_scaled number exponent =
    if is_exponent exponent then nano_moved number (places_right exponent) (places_left exponent) else None

-- nanodegrees of a number without its sign, which has an exponent where it has its letter
abbrev pub nano_size : List ℕ → Option ℕ
nano_size text =
    if nat_lt (position_or_len is_letter text) (length text)
    then nano_scaled (before_first is_letter text) (after_first is_letter text)
    else nano_moved text 0 0

-- a nano number is an optional sign, digits around an optional point, and an optional exponent
abbrev pub nano : List ℕ → Option ℤ
nano bytes = option_map (signed (has_minus bytes)) (nano_size (without_sign bytes))
