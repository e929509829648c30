-- Which nodes and ways of a stream are used, and the stream without those that aren't.
-- Here an id is looked for in the whole list; the code gathers the ids that are named, and looks them up at the end.
use Rattle.std.specs.Prelude.{ℤ, List, Bool, false, not, ◌==◌, ◌&&◌, ◌||◌}
use Rattle.std.specs.List.{filter, list_any, take_while}
use Rattle.std.specs.Ordering.{int_eq}
use Rattle.osm_entity.specs.Items.{ItemValue, kind_of}
use Rattle.osm_entity.specs.Keys.{kind_rank}
use Rattle.osm_entity.specs.Streams.{Stream}
use Rattle.osm_entity.specs.declared.kind.Kind.{Kind}
use Rattle.osm_entity.specs.declared.kind.Kind.TheVariants.{Node as OfNode}
use Rattle.osm_entity.specs.declared.parts.Body.{Body}
use Rattle.osm_entity.specs.declared.parts.Body.TheVariants.{Node, Way, Relation}
use Rattle.osm_entity.specs.declared.parts.Member.{Member}
use Rattle.osm_entity.specs.declared.stream.End.{End}
use Rattle.osm_entity.specs.declared.stream.End.TheVariants.{Done, Broken}

-- an id is among some ids
abbrev pub has_id : List ℤ → ℤ → Bool
has_id ids id = list_any (λ other. int_eq other id) ids

-- a member is the entity of a kind and an id
abbrev pub is_member : Kind → ℤ → Member → Bool
is_member kind id member = (kind_rank member.kind == kind_rank kind) && int_eq member.id id

-- the entity of a kind and an id is named by a way that has it as a node, and by a relation that has it as a member
abbrev pub body_names : Kind → Body → ℤ → Bool
body_names kind (Node place) id = false
body_names kind (Way refs) id = (kind_rank OfNode == kind_rank kind) && has_id refs id
body_names kind (Relation members) id = list_any (is_member kind id) members

-- the entity of a kind and an id is used by items of which one names it
abbrev pub is_used : Kind → List ItemValue → ℤ → Bool
is_used kind items id = list_any (λ item. body_names kind item.entity.body id) items

-- an item is not of a kind
abbrev pub is_not_of : Kind → ItemValue → Bool
is_not_of kind item = not (kind_rank (kind_of item.entity.body) == kind_rank kind)

-- an item stays where it is not of a kind, or its id passes a test
abbrev pub stays_if : Kind → (ℤ → Bool) → ItemValue → Bool
stays_if kind test item = is_not_of kind item || test item.entity.id

-- of items that are whole those stay that are not of a kind or pass a test by id; of broken ones those before the first
-- of that kind
abbrev pub items_left : Kind → (ℤ → Bool) → List ItemValue → End → List ItemValue
items_left kind test items Done = filter (stays_if kind test) items
items_left kind test items Broken = take_while (is_not_of kind) items

-- a stream without the entities of a kind that none of its items names; after a broken end its items before the first
-- of that kind
abbrev pub used_only : Kind → Stream → Stream
used_only kind s = record { items = items_left kind (is_used kind s.items) s.items s.end; end = s.end }
