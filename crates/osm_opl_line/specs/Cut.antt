-- How contracts see a cut line, and what it keeps.
-- Here each number is that of its field; the code reads it once, when the line is cut.
use Rattle.std.specs.Prelude.{ℕ, ◌≡◌, ◌≤◌, List, [], Option, Some, None, Result, Ok, Err, IfSome, IsOk, length, ⊤}
use Rattle.std.specs.Option.{option_map}
use Rattle.std.specs.Str.{IsUtf8}
use Rattle.osm_entity.specs.declared.kind.Kind.{Kind}
use Rattle.osm_entity.specs.declared.kind.Kind.TheVariants.{Node, Way, Relation}
use Rattle.osm_entity.specs.declared.verdict.Cause.{Cause}
use Rattle.osm_opl_line.specs.Contents.{count_in, changeset_in, time_in, text_in, degrees_in, tags_in, refs_in, members_in}
use Rattle.osm_opl_line.specs.Fields.{Fields}
use Rattle.osm_opl_line.specs.Item.{value_of, version_of, is_deleted, item_of}
use Rattle.osm_opl_line.specs.Line.{Good, judged, longest_line}
use Rattle.osm_opl_line.specs.declared.line.Line.TheInside.{Inside}

-- the fields of a cut line, each as the bytes of its slice
abbrev pub fields_seen : Inside → Fields
fields_seen l = record {
  flow = l.flow;
  kind = l.kind;
  id = l.id;
  v = option_map (λ s. s.now) l.v;
  d = option_map (λ s. s.now) l.d;
  c = option_map (λ s. s.now) l.c;
  t = option_map (λ s. s.now) l.t;
  i = option_map (λ s. s.now) l.i;
  u = option_map (λ s. s.now) l.u;
  tags = option_map (λ s. s.now) l.tags;
  x = option_map (λ s. s.now) l.x;
  y = option_map (λ s. s.now) l.y;
  list = option_map (λ s. s.now) l.list;
}

-- what a content weighs, or its cause
abbrev pub weighed : {T : Type 0} → (T → ℕ) → Result T Cause → Result ℕ Cause
weighed weight (Ok value) = Ok (weight value)
weighed weight (Err cause) = Err cause

-- a field is absent, or its content is UTF-8, has no fault and is no longer than a line
abbrev pub IsFine : {T : Type 0} → (List ℕ → Result T Cause) → Option (List ℕ) → Type 0
IsFine says None = ⊤
IsFine says (Some content) = IsUtf8 content × IsOk (says content) × (length content ≤ longest_line)

-- a way's refs or a relation's members have no fault, and a node has no list
abbrev pub IsFineList : Kind → Option (List ℕ) → Type 0
IsFineList Node content = content ≡ None
IsFineList Way content = IsFine refs_in content
IsFineList Relation content = IsFine members_in content

-- a cut line has the numbers of its fields, none of which has a fault, and they say an item
pub record IsCut (l : Inside) : Type 0 where
  pub version : l.numbers.version ≡ version_of (fields_seen l)
  pub deleted : l.numbers.deleted ≡ is_deleted (fields_seen l)
  pub changeset : l.numbers.changeset ≡ value_of 0 changeset_in (fields_seen l).c
  pub time : l.numbers.time ≡ value_of 0 time_in (fields_seen l).t
  pub uid : l.numbers.uid ≡ value_of 0 count_in (fields_seen l).i
  pub lon : l.numbers.lon ≡ value_of None (degrees_in 180) (fields_seen l).x
  pub lat : l.numbers.lat ≡ value_of None (degrees_in 90) (fields_seen l).y
  pub user : IsFine text_in (fields_seen l).u
  pub tags : IsFine tags_in (fields_seen l).tags
  pub list : IsFineList l.kind (fields_seen l).list
  pub made_user : IfSome l.made.user (λ text. value_of [] text_in (fields_seen l).u ≡ text)
  pub made_tags : IfSome l.made.tags (λ list. value_of [] tags_in (fields_seen l).tags ≡ list)
  pub made_refs : IfSome l.made.refs (λ list. l.kind ≡ Way → value_of [] refs_in (fields_seen l).list ≡ list)
  pub made_members :
      IfSome l.made.members (λ list. l.kind ≡ Relation → value_of [] members_in (fields_seen l).list ≡ list)
  pub good : judged (fields_seen l) ≡ Good (item_of (fields_seen l))
