-- The item that the fields of a line say.
-- Here each value is looked up in its field; the code keeps the numbers that it read when it cut the line.
use Rattle.std.specs.Prelude.{ℕ, ℤ, List, [], Bool, false, ◌==◌, if◌then◌else◌, Option, Some, None, Result}
use Rattle.std.specs.Result.{result_unwrap_or}
use Rattle.osm_entity.specs.Entities.{EntityValue}
use Rattle.osm_entity.specs.Items.{ItemValue}
use Rattle.osm_entity.specs.declared.item.Act.{Act}
use Rattle.osm_entity.specs.declared.item.Act.TheVariants.{Keep, Create, Modify, Delete}
use Rattle.osm_entity.specs.declared.kind.Flow.{Flow}
use Rattle.osm_entity.specs.declared.kind.Flow.TheVariants.{Entities, Changes}
use Rattle.osm_entity.specs.declared.kind.Kind.{Kind}
use Rattle.osm_entity.specs.declared.kind.Kind.TheVariants.{Node as OfNode, Way as OfWay, Relation as OfRelation}
use Rattle.osm_entity.specs.declared.parts.Place.{Place}
use Rattle.osm_entity.specs.declared.parts.Body.{Body}
use Rattle.osm_entity.specs.declared.parts.Body.TheVariants.{Node, Way, Relation}
use Rattle.osm_entity.specs.declared.verdict.Cause.{Cause}
use Rattle.osm_opl_line.specs.Contents.{count_in, changeset_in, deleted_in, time_in, text_in, degrees_in, tags_in, refs_in, members_in}
use Rattle.osm_opl_line.specs.Fields.{Fields}

-- what a field says, or this value where it is absent
abbrev pub value_of : {T : Type 0} → T → (List ℕ → Result T Cause) → Option (List ℕ) → T
value_of absent says None = absent
value_of absent says (Some content) = result_unwrap_or (says content) absent

-- the version that the fields say
abbrev pub version_of : Fields → ℕ
version_of f = value_of 0 count_in f.v

-- whether the fields say that the entity is deleted
abbrev pub is_deleted : Fields → Bool
is_deleted f = value_of false deleted_in f.d

-- a place, where both of its degrees are there
abbrev pub place_of : Option ℤ → Option ℤ → Option Place
place_of (Some lon) (Some lat) = Some (record { lon = lon; lat = lat })
place_of lon lat = None

-- what is proper to an entity of this kind, with this place or list
abbrev pub body_with : Kind → Option Place → Option (List ℕ) → Body
body_with OfNode place list = Node place
body_with OfWay place list = Way (value_of [] refs_in list)
body_with OfRelation place list = Relation (value_of [] members_in list)

-- what is proper to an entity of this kind
abbrev pub body_of : Kind → Fields → Body
body_of OfNode f = Node (place_of (value_of None (degrees_in 180) f.x) (value_of None (degrees_in 90) f.y))
body_of OfWay f = Way (value_of [] refs_in f.list)
body_of OfRelation f = Relation (value_of [] members_in f.list)

-- the entity that the fields say
abbrev pub entity_of : Fields → EntityValue
entity_of f = record {
  id = f.id;
  version = version_of f;
  time = value_of 0 time_in f.t;
  changeset = value_of 0 changeset_in f.c;
  uid = value_of 0 count_in f.i;
  user = value_of [] text_in f.u;
  tags = value_of [] tags_in f.tags;
  body = body_of f.kind f;
}

-- an entity file keeps; a change file deletes what is deleted, creates at version 1, and modifies at any other
abbrev pub act_of : Flow → Bool → ℕ → Act
act_of Entities deleted version = Keep
act_of Changes deleted version = if deleted then Delete else if version == 1 then Create else Modify

-- the item that the fields say
abbrev pub item_of : Fields → ItemValue
item_of f = record { act = act_of f.flow (is_deleted f) (version_of f); entity = entity_of f }
