-- Sets of ids by kind, what they say of an item, and the ids that lie in an area or touch it.
-- Here ids are looked for in whole lists; the code gathers them in tables.
use Rattle.std.specs.Prelude.{ℤ, List, Bool, true, false, cond, ◌&&◌, filter, Some, None}
use Rattle.std.specs.List.{list_any}
use Rattle.std.specs.Ordering.{int_eq}
use Rattle.osm_area.specs.Areas.{holds}
use Rattle.osm_area.specs.declared.area.Area.{Area}
use Rattle.osm_entity.specs.Items.{ItemValue, kind_of}
use Rattle.osm_entity.specs.declared.kind.Kind.{Kind}
use Rattle.osm_entity.specs.declared.kind.Kind.TheVariants.{Node as OfNode, Way as OfWay, Relation as OfRelation}
use Rattle.osm_entity.specs.declared.parts.Body.{Body}
use Rattle.osm_entity.specs.declared.parts.Body.TheVariants.{Node, Way, Relation}
use Rattle.osm_entity.specs.declared.parts.Member.{Member}

-- a set of ids for each kind
pub record Sets : Type 0 where
  pub nodes : ℤ → Bool
  pub ways : ℤ → Bool
  pub relations : ℤ → Bool

-- the ids of a kind
abbrev pub ids_of_kind : Sets → Kind → ℤ → Bool
ids_of_kind sets OfNode = sets.nodes
ids_of_kind sets OfWay = sets.ways
ids_of_kind sets OfRelation = sets.relations

-- an item is in the sets where its id is in that of its kind
abbrev pub has_item : Sets → ItemValue → Bool
has_item sets item = ids_of_kind sets (kind_of item.entity.body) item.entity.id

-- a member is in the sets where its id is in that of its kind
abbrev pub has_member : Sets → Member → Bool
has_member sets member = ids_of_kind sets member.kind member.id

-- a way has a part in the sets where a node of it is, and a relation where a member of it is
abbrev pub has_part : Sets → Body → Bool
has_part sets (Node place) = false
has_part sets (Way refs) = list_any sets.nodes refs
has_part sets (Relation members) = list_any (has_member sets) members

-- a body without the refs and members that are not in the sets
abbrev pub clipped_body : Sets → Body → Body
clipped_body sets (Node place) = Node place
clipped_body sets (Way refs) = Way (filter sets.nodes refs)
clipped_body sets (Relation members) = Relation (filter (has_member sets) members)

-- the item with another body
abbrev pub with_body : ItemValue → Body → ItemValue
with_body item body = record item { entity = record item.entity { body = body } }

-- the item as it is, or clipped by the sets
abbrev pub clipped : Bool → Sets → ItemValue → ItemValue
clipped clip sets item = cond clip (with_body item (clipped_body sets item.entity.body)) item

-- the ids of those items that pass a test
abbrev pub ids_where : (ItemValue → Bool) → List ItemValue → ℤ → Bool
ids_where test items id = list_any (λ item. int_eq item.entity.id id && test item) items

-- a body is that of a relation
abbrev pub is_relation : Body → Bool
is_relation (Node place) = false
is_relation (Way refs) = false
is_relation (Relation members) = true

-- a node lies inside where it has a place in the area
abbrev pub lies_inside : Area → Body → Bool
lies_inside area (Node (Some place)) = holds area place
lies_inside area (Node None) = false
lies_inside area (Way refs) = false
lies_inside area (Relation members) = false

-- the ids of the nodes inside
abbrev pub nodes_inside : Area → List ItemValue → ℤ → Bool
nodes_inside area items = ids_where (λ item. lies_inside area item.entity.body) items

-- a way touches nodes where it has a ref to one of them
abbrev pub touches : (ℤ → Bool) → Body → Bool
touches nodes (Node place) = false
touches nodes (Way refs) = list_any nodes refs
touches nodes (Relation members) = false

-- the ids of the ways with a ref to a node inside
abbrev pub touching_ways : Area → List ItemValue → ℤ → Bool
touching_ways area items = ids_where (λ item. touches (nodes_inside area items) item.entity.body) items

-- the nodes inside and the ways that touch them, beside a set of relations
abbrev pub around : Area → List ItemValue → (ℤ → Bool) → Sets
around area items relations = record {
  nodes = nodes_inside area items;
  ways = touching_ways area items;
  relations = relations;
}

-- a body is of a kind
abbrev pub is_body_of : Kind → Body → Bool
is_body_of OfNode (Node place) = true
is_body_of OfWay (Way refs) = true
is_body_of OfRelation (Relation members) = true
is_body_of kind body = false

-- the ids of some items, by kind
abbrev pub keys_of : List ItemValue → Sets
keys_of items = record {
  nodes = ids_where (λ item. is_body_of OfNode item.entity.body) items;
  ways = ids_where (λ item. is_body_of OfWay item.entity.body) items;
  relations = ids_where (λ item. is_body_of OfRelation item.entity.body) items;
}
