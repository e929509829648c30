-- The fields of a line that is being cut: what was read from them, and how they go on with the pieces to come.
-- Here a slot is looked up by its letter; the code has a field for each.
use Rattle.std.specs.Prelude.{ℕ, ℤ, ◌≡◌, ◌≤◌, ◌*◌, ◌==◌, List, [], false, if◌then◌else◌, Option, Some, None, Result, Ok, Err, IfSome, is_some, length, not, sum_by}
use Rattle.std.specs.Borrow.{Bor}
use Rattle.std.specs.Option.{option_map}
use Rattle.osm_entity.specs.Ascii.{letter_c, letter_d, letter_i, letter_t, letter_u, letter_v, letter_x, letter_y, capital_m, capital_n, capital_t}
use Rattle.osm_entity.specs.Entities.{tag_weight, member_weight}
use Rattle.osm_entity.specs.declared.kind.Flow.{Flow}
use Rattle.osm_entity.specs.declared.kind.Kind.{Kind}
use Rattle.osm_entity.specs.declared.kind.Kind.TheVariants.{Node as OfNode, Way as OfWay, Relation as OfRelation}
use Rattle.osm_entity.specs.declared.verdict.Cause.{Cause}
use Rattle.osm_entity.specs.declared.verdict.Cause.TheVariants.{BadField, TwiceField}
use Rattle.osm_opl_line.specs.Contents.{count_in, changeset_in, deleted_in, time_in, text_in, degrees_in, tags_in, refs_in, members_in}
use Rattle.osm_opl_line.specs.Cut.{IsFine}
use Rattle.osm_opl_line.specs.Fields.{Fields, content_fault, is_letter_of}
use Rattle.osm_opl_line.specs.Item.{value_of, item_of}
use Rattle.osm_opl_line.specs.Line.{LineValue, Skipped, Good, Bad, longest_line}
use Rattle.osm_opl_line.specs.declared.draft.Draft.{Draft}
use Rattle.osm_opl_line.specs.declared.line.Line.{Line}

-- the bytes of a slice, where there is one
abbrev pub seen : Option (Bor (List ℕ)) → Option (List ℕ)
seen slot = option_map (λ s. s.now) slot

-- the content that was met with this letter
abbrev pub slot_of : Draft → ℕ → Option (List ℕ)
slot_of draft letter =
    if letter == letter_v then seen draft.v
    else if letter == letter_d then seen draft.d
    else if letter == letter_c then seen draft.c
    else if letter == letter_t then seen draft.t
    else if letter == letter_i then seen draft.i
    else if letter == letter_u then seen draft.u
    else if letter == capital_t then seen draft.tags
    else if letter == letter_x then seen draft.x
    else if letter == letter_y then seen draft.y
    else if letter == capital_n then seen draft.refs
    else if letter == capital_m then seen draft.members
    else None

-- a draft has the numbers and the weights of its fields, none of which has a fault
pub record IsRead (draft : Draft) : Type 0 where
  pub version : draft.numbers.version ≡ value_of 0 count_in (seen draft.v)
  pub deleted : draft.numbers.deleted ≡ value_of false deleted_in (seen draft.d)
  pub changeset : draft.numbers.changeset ≡ value_of 0 changeset_in (seen draft.c)
  pub time : draft.numbers.time ≡ value_of 0 time_in (seen draft.t)
  pub uid : draft.numbers.uid ≡ value_of 0 count_in (seen draft.i)
  pub lon : draft.numbers.lon ≡ value_of None (degrees_in 180) (seen draft.x)
  pub lat : draft.numbers.lat ≡ value_of None (degrees_in 90) (seen draft.y)
  pub user : IsFine text_in (seen draft.u)
  pub tags : IsFine tags_in (seen draft.tags)
  pub refs : IsFine refs_in (seen draft.refs)
  pub members : IsFine members_in (seen draft.members)
  pub user_weight : draft.user_weight ≡ length (value_of [] text_in (seen draft.u))
  pub tags_weight : draft.tags_weight ≡ sum_by tag_weight (value_of [] tags_in (seen draft.tags))
  pub refs_weight : draft.refs_weight ≡ 32 * length (value_of [] refs_in (seen draft.refs))
  pub members_weight : draft.members_weight ≡ sum_by member_weight (value_of [] members_in (seen draft.members))
  pub made_user : IfSome draft.made.user (λ text. value_of [] text_in (seen draft.u) ≡ text)
  pub made_tags : IfSome draft.made.tags (λ list. value_of [] tags_in (seen draft.tags) ≡ list)
  pub made_refs : IfSome draft.made.refs (λ list. value_of [] refs_in (seen draft.refs) ≡ list)
  pub made_members : IfSome draft.made.members (λ list. value_of [] members_in (seen draft.members) ≡ list)
  pub user_light : draft.user_weight ≤ 34 * longest_line
  pub tags_light : draft.tags_weight ≤ 34 * longest_line
  pub refs_light : draft.refs_weight ≤ 34 * longest_line
  pub members_light : draft.members_weight ≤ 34 * longest_line

-- the list of a way or a relation
abbrev pub list_drafted : Kind → Draft → Option (List ℕ)
list_drafted OfNode draft = None
list_drafted OfWay draft = seen draft.refs
list_drafted OfRelation draft = seen draft.members

-- the fields that a draft has
abbrev pub fields_drafted : Flow → Kind → ℤ → Draft → Fields
fields_drafted flow kind id draft = record {
  flow = flow;
  kind = kind;
  id = id;
  v = seen draft.v;
  d = seen draft.d;
  c = seen draft.c;
  t = seen draft.t;
  i = seen draft.i;
  u = seen draft.u;
  tags = seen draft.tags;
  x = seen draft.x;
  y = seen draft.y;
  list = list_drafted kind draft;
}

-- what is wrong with a content whose letter may have been met
abbrev pub refusal : ℕ → List ℕ → Draft → Option Cause
refusal letter content draft =
    if is_some (slot_of draft letter) then Some TwiceField else content_fault letter content

-- what is wrong with a field of an entity of this kind
abbrev pub draft_fault : Kind → ℕ → List ℕ → Draft → Option Cause
draft_fault kind letter content draft =
    if not (is_letter_of kind letter) then Some BadField else refusal letter content draft

-- a draft was given a content, at its letter
pub record Fills (letter : ℕ) (content : List ℕ) (old new : Draft) : Type 0 where
  pub filled : slot_of new letter ≡ Some content
  pub others : (other : ℕ) → (other == letter) ≡ false → slot_of new other ≡ slot_of old other
  pub read : IsRead old → IsRead new

-- what a line says, as it was cut
abbrev pub answer_of : Result (Option Line) Cause → LineValue
answer_of (Ok None) = Skipped
answer_of (Ok (Some line)) = Good (item_of line)
answer_of (Err cause) = Bad cause
