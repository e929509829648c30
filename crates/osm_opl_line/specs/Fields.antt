-- The fields of a line of an OPL file, and the first fault among them.
-- Here a line is cut at once into its pieces, and each field is looked up there; the code goes through the line once.
use Rattle.std.specs.Prelude.{ℕ, ℤ, List, [], ◌∷◌, length, Bool, ◌||◌, ◌==◌, not, nat_lt, if◌then◌else◌, Option, Some, None, codes, slice_index}
use Rattle.std.specs.List.{slice_split, filter, list_any}
use Rattle.std.specs.Option.{option_or}
use Rattle.std.specs.Result.{result_err}
use Rattle.osm_entity.specs.Ascii.{tab, space, letter_c, letter_d, letter_i, letter_t, letter_u, letter_v, letter_x, letter_y, capital_m, capital_n, capital_t}
use Rattle.osm_entity.specs.declared.kind.Flow.{Flow}
use Rattle.osm_entity.specs.declared.kind.Kind.{Kind}
use Rattle.osm_entity.specs.declared.kind.Kind.TheVariants.{Node as OfNode, Way as OfWay, Relation as OfRelation}
use Rattle.osm_entity.specs.declared.verdict.Cause.{Cause}
use Rattle.osm_entity.specs.declared.verdict.Cause.TheVariants.{BadField, TwiceField}
use Rattle.osm_text.specs.Numbers.{whole}
use Rattle.osm_opl_line.specs.Contents.{count_in, changeset_in, deleted_in, time_in, text_in, degrees_in, tags_in, refs_in, members_in, kind_by}

-- the fields of a line, each with the content after its letter
pub record Fields : Type 0 where
  pub flow : Flow
  pub kind : Kind
  pub id : ℤ
  pub v : Option (List ℕ)
  pub d : Option (List ℕ)
  pub c : Option (List ℕ)
  pub t : Option (List ℕ)
  pub i : Option (List ℕ)
  pub u : Option (List ℕ)
  pub tags : Option (List ℕ)
  pub x : Option (List ℕ)
  pub y : Option (List ℕ)
  pub list : Option (List ℕ)

-- spaces and tabs part the pieces of a line
abbrev pub is_blank : ℕ → Bool
is_blank b = (b == space) || (b == tab)

-- a line's pieces: its longest parts without spaces and tabs
abbrev pub pieces : List ℕ → List (List ℕ)
pieces line = filter (λ part. nat_lt 0 (length part)) (slice_split is_blank line)

-- the content of a piece, where it begins with this letter
abbrev pub content_of : ℕ → List ℕ → Option (List ℕ)
content_of letter [] = None
content_of letter (first ∷ rest) = if first == letter then Some rest else None

-- the content of the first piece with this letter
abbrev pub field : ℕ → List (List ℕ) → Option (List ℕ)
field letter [] = None
field letter (piece ∷ more) = option_or (content_of letter piece) (field letter more)

-- the content of N of a way, or of M of a relation
abbrev pub list_field : Kind → List (List ℕ) → Option (List ℕ)
list_field OfNode parts = None
list_field OfWay parts = field capital_n parts
list_field OfRelation parts = field capital_m parts

-- the fields of an entity: v, d, c, t, i, u, T, x, y and the list of its kind
abbrev pub fields_from : Flow → Kind → ℤ → List (List ℕ) → Fields
fields_from flow kind id parts = record {
  flow = flow;
  kind = kind;
  id = id;
  v = field letter_v parts;
  d = field letter_d parts;
  c = field letter_c parts;
  t = field letter_t parts;
  i = field letter_i parts;
  u = field letter_u parts;
  tags = field capital_t parts;
  x = field letter_x parts;
  y = field letter_y parts;
  list = list_field kind parts;
}

-- the fields of an entity whose kind and id are known
abbrev pub fields_by : Flow → Option Kind → Option ℤ → List (List ℕ) → Option Fields
fields_by flow (Some kind) (Some id) parts = Some (fields_from flow kind id parts)
fields_by flow kind id parts = None

-- the fields of a line's pieces, of which the first is the letter of a kind and an id
abbrev pub fields_of : Flow → List (List ℕ) → Option Fields
fields_of flow ((letter ∷ id) ∷ parts) = fields_by flow (kind_by letter) (whole id) parts
fields_of flow parts = None

-- the letters that only a kind has: x and y of a node, N of a way, M of a relation
abbrev pub own_letters : Kind → List ℕ
own_letters OfNode = codes "xy"
own_letters OfWay = codes "N"
own_letters OfRelation = codes "M"

-- a letter is one of these
abbrev pub is_one_of : List ℕ → ℕ → Bool
is_one_of letters letter = list_any (λ l. l == letter) letters

-- the letters of an entity's fields
abbrev pub is_letter_of : Kind → ℕ → Bool
is_letter_of kind letter = is_one_of (codes "vdctiuT") letter || is_one_of (own_letters kind) letter

-- what is wrong with a content, by the letter before it
abbrev pub content_fault : ℕ → List ℕ → Option Cause
content_fault letter content =
    if letter == letter_v then result_err (count_in content)
    else if letter == letter_d then result_err (deleted_in content)
    else if letter == letter_c then result_err (changeset_in content)
    else if letter == letter_t then result_err (time_in content)
    else if letter == letter_i then result_err (count_in content)
    else if letter == letter_u then result_err (text_in content)
    else if letter == capital_t then result_err (tags_in content)
    else if letter == letter_x then result_err (degrees_in 180 content)
    else if letter == letter_y then result_err (degrees_in 90 content)
    else if letter == capital_n then result_err (refs_in content)
    else result_err (members_in content)

-- what is wrong with a piece after these letters: its letter isn't allowed, came before, or has a bad content
abbrev pub piece_fault : Kind → List ℕ → List ℕ → Option Cause
piece_fault kind earlier [] = Some BadField
piece_fault kind earlier (letter ∷ content) =
    if not (is_letter_of kind letter) then Some BadField
    else if is_one_of earlier letter then Some TwiceField
    else content_fault letter content

-- the first letter of each piece, up to here
abbrev pub with_letter : List ℕ → List ℕ → List ℕ
with_letter earlier piece = slice_index piece 0 ∷ earlier

-- the fault of the first piece that has one, from the left
abbrev pub fault_among : Kind → List ℕ → List (List ℕ) → Option Cause
fault_among kind earlier [] = None
fault_among kind earlier (piece ∷ more) =
    option_or (piece_fault kind earlier piece) (fault_among kind (with_letter earlier piece) more)
