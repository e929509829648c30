-- What the types and the invariants of items give of an item that is written to a file of a flow.
-- Here each fact is said of the item's value; the code has them by its types.
use Rattle.std.specs.Prelude.{◌<◌, ◌^◌, ◌≡◌, ◌↔◌, All, FitsSigned, ⊤}
use Rattle.std.specs.Int.{w64}
use Rattle.std.specs.Str.{IsUtf8}
use Rattle.osm_entity.specs.Entities.{IsEntity}
use Rattle.osm_entity.specs.Items.{ItemValue, IsItem}
use Rattle.osm_entity.specs.declared.item.Act.{Act}
use Rattle.osm_entity.specs.declared.item.Act.TheVariants.{Keep}
use Rattle.osm_entity.specs.declared.kind.Flow.{Flow}
use Rattle.osm_entity.specs.declared.kind.Flow.TheVariants.{Entities}
use Rattle.osm_entity.specs.declared.parts.Body.{Body}
use Rattle.osm_entity.specs.declared.parts.Body.TheVariants.{Node, Way, Relation}
use Rattle.osm_entity.specs.declared.parts.Member.{Member}
use Rattle.osm_entity.specs.declared.parts.Tag.{Tag}

-- the texts of a tag are UTF-8
pub record IsTagText (tag : Tag) : Type 0 where
  pub key : IsUtf8 tag.key
  pub value : IsUtf8 tag.value

-- a member's id fits 64 bits, and its role is UTF-8
pub record IsMemberText (member : Member) : Type 0 where
  pub id : FitsSigned w64 member.id
  pub role : IsUtf8 member.role

-- all refs and members of a body are those of its types
abbrev pub IsBodyText : Body → Type 0
IsBodyText (Node place) = ⊤
IsBodyText (Way refs) = All (λ id. FitsSigned w64 id) refs
IsBodyText (Relation members) = All IsMemberText members

-- an act that a file of this flow says: an entity file says Keep alone, and a change file all others
abbrev pub Says : Flow → Act → Type 0
Says flow act = (act ≡ Keep) ↔ (flow ≡ Entities)

-- an item as its types and invariants have it, with an act that a file of this flow says
pub record IsWritable (flow : Flow) (item : ItemValue) : Type 0 where
  pub entity : IsEntity item.entity
  pub acted : IsItem item
  pub kept : Says flow item.act
  pub id : FitsSigned w64 item.entity.id
  pub time : item.entity.time < 2 ^ 32
  pub user : IsUtf8 item.entity.user
  pub tags : All IsTagText item.entity.tags
  pub body : IsBodyText item.entity.body
