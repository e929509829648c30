-- What a line of an OPL file says: nothing, an item, or a cause why it is bad.
-- Here each test looks at the whole line; the code goes through the line once.
use Rattle.std.specs.Prelude.{ℕ, ℤ, List, [], ◌∷◌, length, Bool, true, false, ◌&&◌, ◌||◌, ◌==◌, not, nat_lt, if◌then◌else◌, Option, Some, None, slice_index}
use Rattle.std.specs.List.{list_any}
use Rattle.std.specs.Str.{is_utf8}
use Rattle.osm_entity.specs.Ascii.{tab, number_sign}
use Rattle.osm_entity.specs.Entities.{greatest_weight, weight_of}
use Rattle.osm_entity.specs.Items.{ItemValue}
use Rattle.osm_entity.specs.declared.kind.Flow.{Flow}
use Rattle.osm_entity.specs.declared.kind.Flow.TheVariants.{Entities, Changes}
use Rattle.osm_entity.specs.declared.kind.Kind.{Kind}
use Rattle.osm_entity.specs.declared.kind.Kind.TheVariants.{Node as OfNode, Way as OfWay, Relation as OfRelation}
use Rattle.osm_entity.specs.declared.verdict.Cause.{Cause}
use Rattle.osm_entity.specs.declared.verdict.Cause.TheVariants.{BadText, BadField, BadNumber, NoPlace, Deleted, TooHeavy, LineTooLong}
use Rattle.osm_text.specs.Numbers.{whole}
use Rattle.osm_opl_line.specs.Contents.{degrees_in, kind_by}
use Rattle.osm_opl_line.specs.Fields.{Fields, fields_from, fault_among, pieces}
use Rattle.osm_opl_line.specs.Item.{value_of, is_deleted, entity_of, item_of}

-- a line is skipped, or says an item, or is bad for a cause
pub data LineValue : Type 0 where
  Skipped : LineValue
  Good : (item : ItemValue) → LineValue
  Bad : (cause : Cause) → LineValue

-- the most bytes of a line
abbrev pub longest_line : ℕ
longest_line = 16777216

-- a file of this flow has changes
abbrev pub is_changes : Flow → Bool
is_changes Entities = false
is_changes Changes = true

-- a place lacks one of its degrees, or both where the node isn't gone
abbrev pub lacks_degrees : Bool → Option ℤ → Option ℤ → Bool
lacks_degrees gone (Some lon) (Some lat) = false
lacks_degrees gone None None = not gone
lacks_degrees gone lon lat = true

-- a node lacks its place; only a delete of a change file may have none
abbrev pub lacks_place : Kind → Fields → Bool
lacks_place OfNode f =
    lacks_degrees (is_changes f.flow && is_deleted f)
    (value_of None (degrees_in 180) f.x) (value_of None (degrees_in 90) f.y)
lacks_place OfWay f = false
lacks_place OfRelation f = false

-- what fields say none of which has a fault of its own
abbrev pub judged : Fields → LineValue
judged f =
    if lacks_place f.kind f then Bad NoPlace
    else if not (is_changes f.flow) && is_deleted f then Bad Deleted
    else if nat_lt greatest_weight (weight_of (entity_of f)) then Bad TooHeavy
    else Good (item_of f)

-- the first fault of the fields, else what they say together
abbrev pub after_fault : Option Cause → Fields → LineValue
after_fault (Some cause) f = Bad cause
after_fault None f = judged f

-- what fields of a kind and an id say, where the letter is that of a kind and the id a number
abbrev pub said_by : Flow → Option Kind → Option ℤ → List (List ℕ) → LineValue
said_by flow None id parts = Bad BadField
said_by flow (Some kind) None parts = Bad BadNumber
said_by flow (Some kind) (Some id) parts = after_fault (fault_among kind [] parts) (fields_from flow kind id parts)

-- what pieces say: the letter of a kind and an id, and then the fields
abbrev pub said_of : Flow → List (List ℕ) → LineValue
said_of flow ((letter ∷ id) ∷ parts) = said_by flow (kind_by letter) (whole id) parts
said_of flow parts = Skipped

-- a control byte is below 32 and no tab
abbrev pub is_control : ℕ → Bool
is_control b = nat_lt b 32 && not (b == tab)

-- a line is skipped where it begins with # or has nothing but spaces and tabs
abbrev pub is_skipped : List ℕ → Bool
is_skipped line = (slice_index line 0 == number_sign) || (length (pieces line) == 0)

-- what a line of a file of this flow says
unfoldable pub opl_line : Flow → List ℕ → LineValue
opl_line flow line =
    if nat_lt longest_line (length line) then Bad LineTooLong
    else if is_skipped line then Skipped
    else if not (is_utf8 line) then Bad BadText
    else if list_any is_control line then Bad BadField
    else said_of flow (pieces line)
