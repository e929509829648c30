-- What the content of a field says: a value, or a cause why it is bad.
-- Here a content is cut at once at its commas; the code goes from one part to the next.
use Rattle.std.specs.Prelude.{ℕ, ℤ, nat_abs, ◌≡◌, ◌*◌, All, List, [], ◌∷◌, length, Bool, true, false, ◌&&◌, ◌==◌, nat_lt, nat_le, if◌then◌else◌, Option, Some, None, Result, Ok, Err}
use Rattle.std.specs.List.{slice_split, position_or_len, before_first, after_first, list_any}
use Rattle.std.specs.Option.{option_map, option_and_then, ok_or}
use Rattle.osm_entity.specs.Ascii.{comma, percent_sign, equals_sign, at_sign, letter_n, letter_w, letter_r, capital_d, capital_v}
use Rattle.osm_entity.specs.Counts.{counted, small_count}
use Rattle.osm_entity.specs.Entities.{degree}
use Rattle.osm_entity.specs.declared.kind.Kind.{Kind}
use Rattle.osm_entity.specs.declared.kind.Kind.TheVariants.{Node, Way, Relation}
use Rattle.osm_entity.specs.declared.parts.Member.{Member}
use Rattle.osm_entity.specs.declared.parts.Tag.{Tag}
use Rattle.osm_entity.specs.declared.verdict.Cause.{Cause}
use Rattle.osm_entity.specs.declared.verdict.Cause.TheVariants.{BadField, BadNumber, BadEscape, BadTime, BadCoordinate}
use Rattle.osm_text.specs.Escapes.{unescaped}
use Rattle.osm_text.specs.Nano.{nano}
use Rattle.osm_text.specs.Numbers.{whole}
use Rattle.osm_text.specs.Times.{time}

-- a version or uid is a whole number below 2^31, where a negative one is read as 0
abbrev pub count_in : List ℕ → Result ℕ Cause
count_in content = ok_or (option_and_then small_count (option_map counted (whole content))) BadNumber

-- a changeset is a whole number, where a negative one is read as 0
abbrev pub changeset_in : List ℕ → Result ℕ Cause
changeset_in content = ok_or (option_map counted (whole content)) BadNumber

-- whether an entity is deleted: V says that it is visible, and D that it is deleted
abbrev pub deleted_in : List ℕ → Result Bool Cause
deleted_in (letter ∷ []) =
    if letter == capital_v then Ok false
    else if letter == capital_d then Ok true
    else Err BadField
deleted_in content = Err BadField

-- a time, or 0 where nothing is said
abbrev pub time_in : List ℕ → Result ℕ Cause
time_in [] = Ok 0
time_in content = ok_or (time content) BadTime

-- an escaped text
abbrev pub text_in : List ℕ → Result (List ℕ) Cause
text_in content = ok_or (unescaped content) BadEscape

-- no byte of a text is a %, so nothing in it is escaped
abbrev pub HasNoEscape : List ℕ → Type 0
HasNoEscape text = All (λ b. (b == percent_sign) ≡ false) text

-- nanodegrees, of at most this number of degrees in size
abbrev pub within : ℕ → Option ℤ → Result (Option ℤ) Cause
within most None = Err BadNumber
within most (Some n) = if nat_le (nat_abs n) (most * degree) then Ok (Some n) else Err BadCoordinate

-- degrees up to a size, or none where nothing is said
abbrev pub degrees_in : ℕ → List ℕ → Result (Option ℤ) Cause
degrees_in most [] = Ok None
degrees_in most content = within most (nano content)

-- the parts between commas; none where nothing is said
abbrev pub parts_of : List ℕ → List (List ℕ)
parts_of [] = []
parts_of content = slice_split (λ b. b == comma) content

-- a value before others, where there is no cause; else the first cause
abbrev pub before_all : {T : Type 0} → Result T Cause → Result (List T) Cause → Result (List T) Cause
before_all (Err cause) more = Err cause
before_all (Ok value) (Err cause) = Err cause
before_all (Ok value) (Ok values) = Ok (value ∷ values)

-- what all parts say, or the cause of the first bad one
abbrev pub all_in : {T : Type 0} → (List ℕ → Result T Cause) → List (List ℕ) → Result (List T) Cause
all_in says [] = Ok []
all_in says (part ∷ parts) = before_all (says part) (all_in says parts)

-- a tag of its key and value, or the first cause of the two
abbrev pub tag_of : Result (List ℕ) Cause → Result (List ℕ) Cause → Result Tag Cause
tag_of (Err cause) value = Err cause
tag_of (Ok key) (Err cause) = Err cause
tag_of (Ok key) (Ok value) = Ok (record { key = key; value = value })

-- the sign between a key and its value
abbrev pub is_equals : ℕ → Bool
is_equals b = b == equals_sign

-- the position of the first = of a tag, and its length where it has none
abbrev pub position_of_equals : List ℕ → ℕ
position_of_equals part = position_or_len is_equals part

-- a tag is cut at its first =, and its key isn't empty
abbrev pub tag_in : List ℕ → Result Tag Cause
tag_in part =
    if nat_lt 0 (position_of_equals part) && nat_lt (position_of_equals part) (length part)
    then tag_of (text_in (before_first is_equals part)) (text_in (after_first is_equals part))
    else Err BadField

-- tags, parted by commas
abbrev pub tags_in : List ℕ → Result (List Tag) Cause
tags_in content = all_in tag_in (parts_of content)

-- a ref is n and a whole number
abbrev pub ref_in : List ℕ → Result ℤ Cause
ref_in [] = Err BadField
ref_in (letter ∷ id) = if letter == letter_n then ok_or (whole id) BadNumber else Err BadField

-- refs, parted by commas
abbrev pub refs_in : List ℕ → Result (List ℤ) Cause
refs_in content = all_in ref_in (parts_of content)

-- the kind of a letter: n for nodes, w for ways, r for relations
abbrev pub kind_by : ℕ → Option Kind
kind_by letter =
    if letter == letter_n then Some Node
    else if letter == letter_w then Some Way
    else if letter == letter_r then Some Relation
    else None

-- the sign between a member's number and its role
abbrev pub is_at_sign : ℕ → Bool
is_at_sign b = b == at_sign

-- a member of its kind, id and role, or the first cause of the three
abbrev pub member_of : Option Kind → Option ℤ → Result (List ℕ) Cause → Result Member Cause
member_of None id role = Err BadField
member_of (Some kind) None role = Err BadNumber
member_of (Some kind) (Some id) (Err cause) = Err cause
member_of (Some kind) (Some id) (Ok role) = Ok (record { kind = kind; id = id; role = role })

-- a member is a letter of a kind, a whole number up to the first @, and a role
abbrev pub member_in : List ℕ → Result Member Cause
member_in [] = Err BadField
member_in (letter ∷ rest) =
    if list_any is_at_sign rest
    then member_of (kind_by letter) (whole (before_first is_at_sign rest)) (text_in (after_first is_at_sign rest))
    else Err BadField

-- members, parted by commas
abbrev pub members_in : List ℕ → Result (List Member) Cause
members_in content = all_in member_in (parts_of content)
