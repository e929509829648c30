-- A stream of seven items and a box, on which the rules differ.
-- Here it is written out; no code has it.
use Rattle.std.specs.Prelude.{ℤ, pos, List, [], ◌∷◌, Some}
use Rattle.osm_area.specs.declared.area.Area.{Area}
use Rattle.osm_area.specs.declared.area.Area.TheVariants.{Box}
use Rattle.osm_entity.specs.Items.{ItemValue}
use Rattle.osm_entity.specs.Streams.{Stream}
use Rattle.osm_entity.specs.declared.item.Act.TheVariants.{Keep}
use Rattle.osm_entity.specs.declared.kind.Kind.{Kind}
use Rattle.osm_entity.specs.declared.kind.Kind.TheVariants.{Way as OfWay, Relation as OfRelation}
use Rattle.osm_entity.specs.declared.parts.Body.{Body}
use Rattle.osm_entity.specs.declared.parts.Body.TheVariants.{Node, Way, Relation}
use Rattle.osm_entity.specs.declared.stream.End.TheVariants.{Done}

-- an item of an id and a body, with no metadata
abbrev pub example_item : ℤ → Body → ItemValue
example_item id body = record {
  act = Keep;
  entity = record { id = id; version = 0; time = 0; changeset = 0; uid = 0; user = []; tags = []; body = body };
}

-- a node of an id, at that many nanodegrees east and north
abbrev pub example_node : ℤ → ℤ → ItemValue
example_node id at = example_item id (Node (Some (record { lon = at; lat = at })))

-- a way of an id with these nodes
abbrev pub example_way : ℤ → List ℤ → ItemValue
example_way id refs = example_item id (Way refs)

-- a relation of an id with one member, of no role
abbrev pub example_relation : ℤ → Kind → ℤ → ItemValue
example_relation id kind member = example_item id (Relation (record { kind = kind; id = member; role = [] } ∷ []))

-- the square of one nanodegree
abbrev pub example_box : Area
example_box = Box (pos 0) (pos 1) (pos 1) (pos 0)

-- a node inside and two outside, two ways, and a relation of the relation behind it, which has the first way
abbrev pub example_stream : Stream
example_stream = record {
  items = example_node (pos 1) (pos 1) ∷ example_node (pos 2) (pos 2) ∷ example_node (pos 3) (pos 3)
      ∷ example_way (pos 1) (pos 1 ∷ pos 2 ∷ []) ∷ example_way (pos 2) (pos 2 ∷ pos 3 ∷ [])
      ∷ example_relation (pos 1) OfRelation (pos 2) ∷ example_relation (pos 2) OfWay (pos 1) ∷ [];
  end = Done;
}
