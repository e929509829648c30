-- Items of a stream as contracts see them, what each keeps, and its key.
-- Here an item is an act and an entity side by side; the code reads the act from two fields of its line.
use Rattle.std.specs.Prelude.{◌≡◌, ◌≢◌, Bool, true, false, IsTrue, Some, None}
use Rattle.osm_entity.specs.Entities.{EntityValue}
use Rattle.osm_entity.specs.declared.item.Act.{Act}
use Rattle.osm_entity.specs.declared.item.Act.TheVariants.{Create, Modify, Delete}
use Rattle.osm_entity.specs.declared.kind.Kind.{Kind}
use Rattle.osm_entity.specs.declared.kind.Kind.TheVariants.{Node as OfNode, Way as OfWay, Relation as OfRelation}
use Rattle.osm_entity.specs.declared.kind.Key.{Key}
use Rattle.osm_entity.specs.declared.parts.Body.{Body}
use Rattle.osm_entity.specs.declared.parts.Body.TheVariants.{Node, Way, Relation}

-- an item: what is done, and the entity
pub record ItemValue : Type 0 where
  pub act : Act
  pub entity : EntityValue

-- a node without a place is the one body that lacks one
abbrev pub has_place : Body → Bool
has_place (Node None) = false
has_place (Node (Some p)) = true
has_place (Way refs) = true
has_place (Relation members) = true

-- only a delete may lack a place; a create has version 1, and a modify another version
pub record IsItem (i : ItemValue) : Type 0 where
  pub placed : i.act ≢ Delete → IsTrue (has_place i.entity.body)
  pub created : i.act ≡ Create → i.entity.version ≡ 1
  pub modified : i.act ≡ Modify → i.entity.version ≢ 1

-- the kind of a body
abbrev pub kind_of : Body → Kind
kind_of (Node place) = OfNode
kind_of (Way refs) = OfWay
kind_of (Relation members) = OfRelation

-- the key of an item: its kind and id
abbrev pub key_of : ItemValue → Key
key_of i = record { kind = kind_of i.entity.body; id = i.entity.id }
