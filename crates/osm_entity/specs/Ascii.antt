-- Bytes of texts by their names in ASCII.
-- Here each is a number with a name; the code writes them as letters.
use Rattle.std.specs.Prelude.{ℕ}

-- what ends a line
abbrev pub newline : ℕ
newline = 10

-- what stands before the newline of a line from Windows
abbrev pub carriage_return : ℕ
carriage_return = 13

-- a tab, which parts fields as a space does
abbrev pub tab : ℕ
tab = 9

-- a space
abbrev pub space : ℕ
space = 32

-- the sign before the name of a section that is subtracted
abbrev pub exclamation_mark : ℕ
exclamation_mark = 33

-- the sign that begins a comment
abbrev pub number_sign : ℕ
number_sign = 35

-- the sign at both ends of an escape
abbrev pub percent_sign : ℕ
percent_sign = 37

-- the sign between the parts of a list
abbrev pub comma : ℕ
comma = 44

-- the sign before a number below 0, and between the parts of a date
abbrev pub minus_sign : ℕ
minus_sign = 45

-- the sign between whole degrees and their decimals
abbrev pub point : ℕ
point = 46

-- the sign between the parts of a clock
abbrev pub colon : ℕ
colon = 58

-- the sign between a key and its value
abbrev pub equals_sign : ℕ
equals_sign = 61

-- the sign between a member and its role
abbrev pub at_sign : ℕ
at_sign = 64

-- the sign before a number above 0
abbrev pub plus_sign : ℕ
plus_sign = 43

-- the digit 0, which the others follow
abbrev pub digit_zero : ℕ
digit_zero = 48

-- the control character above the printable ones
abbrev pub delete_character : ℕ
delete_character = 127

-- the letter of a changeset
abbrev pub letter_c : ℕ
letter_c = 99

-- the letter of whether an entity is visible or deleted
abbrev pub letter_d : ℕ
letter_d = 100

-- the letter of an exponent
abbrev pub letter_e : ℕ
letter_e = 101

-- the letter of a uid
abbrev pub letter_i : ℕ
letter_i = 105

-- the letter of a node
abbrev pub letter_n : ℕ
letter_n = 110

-- the letter of a relation
abbrev pub letter_r : ℕ
letter_r = 114

-- the letter of a time
abbrev pub letter_t : ℕ
letter_t = 116

-- the letter of a user
abbrev pub letter_u : ℕ
letter_u = 117

-- the letter of a version
abbrev pub letter_v : ℕ
letter_v = 118

-- the letter of a way
abbrev pub letter_w : ℕ
letter_w = 119

-- the letter of degrees east
abbrev pub letter_x : ℕ
letter_x = 120

-- the letter of degrees north
abbrev pub letter_y : ℕ
letter_y = 121

-- the capital of what is deleted
abbrev pub capital_d : ℕ
capital_d = 68

-- the capital of an exponent
abbrev pub capital_e : ℕ
capital_e = 69

-- the capital of members
abbrev pub capital_m : ℕ
capital_m = 77

-- the capital of refs
abbrev pub capital_n : ℕ
capital_n = 78

-- the capital of tags, and the sign between a date and a time of the day
abbrev pub capital_t : ℕ
capital_t = 84

-- the capital of what is visible
abbrev pub capital_v : ℕ
capital_v = 86

-- the capital at the end of a time
abbrev pub capital_z : ℕ
capital_z = 90
