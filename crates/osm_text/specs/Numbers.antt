-- Numbers as texts: whole numbers, and decimal numbers of nanodegrees.
-- Here a text is looked at whole; the code goes through it digit by digit.
use Rattle.std.specs.Prelude.{ℕ, ℤ, pos, neg_ℤ, nat_abs, ◌-◌, ◌/◌, ◌%◌, ◌^◌, List, [], ◌∷◌, ◌++◌, length, take, drop, replicate, Bool, ◌&&◌, ◌==◌, nat_lt, nat_le, int_lt, if◌then◌else◌, Option, Some, None, codes, decimal, slice_index}
use Rattle.std.specs.Char.{is_digit}
use Rattle.std.specs.List.{list_all, suffix_len}
use Rattle.std.specs.Str.Parse.{digits_value}
use Rattle.osm_entity.specs.Ascii.{minus_sign, digit_zero, point}

-- a text begins with a minus
abbrev pub has_minus : List ℕ → Bool
has_minus bytes = slice_index bytes 0 == minus_sign

-- a text without its minus
abbrev pub unsigned_part : List ℕ → List ℕ
unsigned_part bytes = if has_minus bytes then drop 1 bytes else bytes

-- a number of this size, negative after a minus
abbrev pub signed : Bool → ℕ → ℤ
signed minus n = if minus then neg_ℤ (pos n) else pos n

-- only digits: at least one, and no more than a number of them
abbrev pub are_digits : ℕ → List ℕ → Bool
are_digits most bytes = nat_lt 0 (length bytes) && nat_le (length bytes) most && list_all (λ c. is_digit c 10) bytes

-- a number of this size lies in 64 bits: from -2^63 to 2^63 - 1
abbrev pub size_fits : Bool → ℕ → Bool
size_fits minus n = if minus then nat_le n (2 ^ 63) else nat_lt n (2 ^ 63)

-- a number from its sign and size, where it lies in 64 bits
abbrev pub fitting : Bool → ℕ → Option ℤ
fitting minus n = if size_fits minus n then Some (signed minus n) else None

-- a whole number is an optional minus and digits, at least one, and lies in 64 bits
abbrev pub whole : List ℕ → Option ℤ
whole bytes =
    if are_digits (length bytes) (unsigned_part bytes)
    then fitting (has_minus bytes) (digits_value 10 (unsigned_part bytes))
    else None

-- digits without the zeros at their end
abbrev pub trimmed : List ℕ → List ℕ
trimmed digits = take (length digits - suffix_len (λ c. c == digit_zero) digits) digits

-- a number below 10^9 in nine digits
abbrev pub nine_digits : ℕ → List ℕ
nine_digits n = replicate (9 - length (decimal n)) digit_zero ++ decimal n

-- what follows the whole degrees: nothing for 0, else a point and nine digits without the zeros at their end
abbrev pub fraction_text : ℕ → List ℕ
fraction_text n = if n == 0 then [] else point ∷ trimmed (nine_digits n)

-- nanodegrees as degrees: a minus below 0, the whole degrees, and the rest
abbrev pub nano_text : ℤ → List ℕ
nano_text z =
    (if int_lt z (pos 0) then codes "-" else []) ++ decimal (nat_abs z / 10 ^ 9) ++ fraction_text (nat_abs z % 10 ^ 9)
