-- Links between relations: which ids are named, and by whom.
-- Here links are told by a test of two ids; the code has for each id that is named a list of those that name it.
use Rattle.std.specs.Prelude.{◌≡◌, ℤ, Bool, true, false, cond, ◌&&◌, ◌||◌, ◌⊎◌, List, Option, Some, None}
use Rattle.std.specs.HashMap.{get}
use Rattle.std.specs.List.{list_any}
use Rattle.std.specs.Ordering.{int_eq}
use Rattle.osm_entity.specs.Items.{ItemValue}
use Rattle.osm_entity.specs.declared.kind.Kind.{Kind}
use Rattle.osm_entity.specs.declared.kind.Kind.TheVariants.{Node as OfNode, Way as OfWay, Relation as OfRelation}
use Rattle.osm_entity.specs.declared.parts.Body.{Body}
use Rattle.osm_entity.specs.declared.parts.Body.TheVariants.{Node, Way, Relation}
use Rattle.osm_entity.specs.declared.parts.Member.{Member}
use Rattle.osm_select.specs.IdSets.{HoldsAll, among}
use Rattle.osm_select.specs.declared.links.Links.{Links}

-- an id is on a list, where there is one
abbrev pub listed : Option (List ℤ) → ℤ → Bool
listed None id = false
listed (Some ids) id = among ids id

-- an id is named by another
abbrev pub linked : Links → ℤ → ℤ → Bool
linked links named = listed (get int_eq links.by named)

-- no id is named
abbrev pub no_links : ℤ → ℤ → Bool
no_links named by = false

-- the links with one more
abbrev pub with_link : ℤ → ℤ → (ℤ → ℤ → Bool) → ℤ → ℤ → Bool
with_link named by links n b = int_eq named n && int_eq by b || links n b

-- the links with others in the place of those to one id
abbrev pub with_list : ℤ → (ℤ → Bool) → (ℤ → ℤ → Bool) → ℤ → ℤ → Bool
with_list named ids links n b = cond (int_eq named n) (ids b) (links n b)

-- the links without those to one id
abbrev pub without_id : ℤ → (ℤ → ℤ → Bool) → ℤ → ℤ → Bool
without_id named links n b = cond (int_eq named n) false (links n b)

-- a kind is that of relations
abbrev pub is_relation_kind : Kind → Bool
is_relation_kind OfNode = false
is_relation_kind OfWay = false
is_relation_kind OfRelation = true

-- a member is the relation of an id
abbrev pub is_relation_of : ℤ → Member → Bool
is_relation_of id member = is_relation_kind member.kind && int_eq member.id id

-- a relation names another that is a member of it
abbrev pub names_relation : ℤ → Body → Bool
names_relation id (Node place) = false
names_relation id (Way refs) = false
names_relation id (Relation members) = list_any (is_relation_of id) members

-- the links with those of one id more
abbrev pub with_links : ℤ → (ℤ → Bool) → (ℤ → ℤ → Bool) → ℤ → ℤ → Bool
with_links by named links n b = links n b || int_eq by b && named n

-- the links of items: the id of one that names a relation
abbrev pub links_in : List ItemValue → ℤ → ℤ → Bool
links_in items n b = list_any (λ item. int_eq item.entity.id b && names_relation n item.entity.body) items

-- a set is closed under links where it holds who names an id that it holds
abbrev pub IsClosedUnder : (ℤ → ℤ → Bool) → (ℤ → Bool) → Type 0
IsClosedUnder links set = (named by : ℤ) → set named ≡ true → links named by ≡ true → set by ≡ true

-- an id of a queue was taken out of the links with those that name it; of the others that left it nobody names one
pub record Popped (queue left : ℤ → Bool) (links rest : ℤ → ℤ → Bool) (by : ℤ → Bool) : Type 0 where
  pub id : ℤ
  pub was : queue id ≡ true
  pub names : by ≡ links id
  pub without : rest ≡ without_id id links
  pub still : (other : ℤ) → queue other ≡ true → (left other ≡ true) ⊎ ((b : ℤ) → rest other b ≡ false)
  pub within : HoldsAll queue left
