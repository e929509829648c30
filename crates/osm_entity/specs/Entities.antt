-- Entities as contracts see them, what each keeps, and what it weighs.
-- Here an entity is a record of plain numbers and lists; the code has texts and lists by types of their own.
use Rattle.std.specs.Prelude.{ℕ, ℤ, nat_abs, ◌+◌, ◌*◌, ◌^◌, ◌<◌, ◌≤◌, ◌≢◌, List, [], length, All, Bool, true, ◌&&◌, nat_le, IsTrue, Some, None, sum_by}
use Rattle.osm_entity.specs.Counts.{count_limit, changeset_limit}
use Rattle.osm_entity.specs.declared.parts.Member.{Member}
use Rattle.osm_entity.specs.declared.parts.Tag.{Tag}
use Rattle.osm_entity.specs.declared.parts.Place.{Place}
use Rattle.osm_entity.specs.declared.parts.Body.{Body}
use Rattle.osm_entity.specs.declared.parts.Body.TheVariants.{Node, Way, Relation}

-- an entity: its id, its metadata, its tags, and what is proper to its kind
pub record EntityValue : Type 0 where
  pub id : ℤ
  pub version : ℕ
  pub time : ℕ
  pub changeset : ℕ
  pub uid : ℕ
  pub user : List ℕ
  pub tags : List Tag
  pub body : Body

-- one degree, in nanodegrees
abbrev pub degree : ℕ
degree = 10 ^ 9

-- a place within 180 degrees of Greenwich and 90 of the equator
abbrev pub place_fits : Place → Bool
place_fits p = nat_le (nat_abs p.lon) (180 * degree) && nat_le (nat_abs p.lat) (90 * degree)

-- a node's place, where it has one, is within these bounds; ways and relations have none
abbrev pub body_fits : Body → Bool
body_fits (Node (Some p)) = place_fits p
body_fits (Node None) = true
body_fits (Way refs) = true
body_fits (Relation members) = true

-- what a tag weighs: 32 and its bytes
abbrev pub tag_weight : Tag → ℕ
tag_weight t = 32 + length t.key + length t.value

-- what a member weighs: 32 and the bytes of its role
abbrev pub member_weight : Member → ℕ
member_weight m = 32 + length m.role

-- 32 for each ref; the sum over the members
abbrev pub body_weight : Body → ℕ
body_weight (Node place) = 0
body_weight (Way refs) = 32 * length refs
body_weight (Relation members) = sum_by member_weight members

-- 128, all text bytes, and 32 for each tag, ref and member
abbrev pub weight_of : EntityValue → ℕ
weight_of e = 128 + length e.user + sum_by tag_weight e.tags + body_weight e.body

-- the most that an entity weighs
abbrev pub greatest_weight : ℕ
greatest_weight = 2097152

-- what every entity keeps
pub record IsEntity (e : EntityValue) : Type 0 where
  pub version : e.version < count_limit
  pub uid : e.uid < count_limit
  pub changeset : e.changeset < changeset_limit
  pub named : All (λ t. t.key ≢ []) e.tags
  pub in_range : IsTrue (body_fits e.body)
  pub light : weight_of e ≤ greatest_weight
