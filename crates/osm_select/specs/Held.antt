-- What an area task gives that holds its items until their end.
-- Here the least set of relations is reached in rounds over the whole list; the code follows each link once.
use Rattle.std.specs.Prelude.{◌≡◌, ℕ, zero, suc, ℤ, List, [], length, map, filter, Bool, true, false, ◌&&◌, ◌||◌}
use Rattle.std.specs.List.{list_any}
use Rattle.osm_area.specs.declared.area.Area.{Area}
use Rattle.osm_entity.specs.Items.{ItemValue}
use Rattle.osm_entity.specs.Streams.{Stream}
use Rattle.osm_entity.specs.declared.parts.Body.{Body}
use Rattle.osm_entity.specs.declared.parts.Body.TheVariants.{Node, Way, Relation}
use Rattle.osm_entity.specs.declared.stream.End.{End}
use Rattle.osm_entity.specs.declared.stream.End.TheVariants.{Done, Broken}
use Rattle.osm_select.specs.IdSets.{among, no_ids}
use Rattle.osm_select.specs.Kinds.{kinds_stream}
use Rattle.osm_select.specs.Parts.{Sets, around, clipped, has_item, has_part, ids_where, is_relation, keys_of, nodes_inside, touching_ways}

-- an item is drawn in by sets where it is a relation with a member in them
abbrev pub is_drawn : Sets → ItemValue → Bool
is_drawn sets item = is_relation item.entity.body && has_part sets item.entity.body

-- a set of relations draws in each relation with a member that is a node inside, a way that touches, or in the set
abbrev pub drawn : Area → List ItemValue → (ℤ → Bool) → ℤ → Bool
drawn area items relations = ids_where (is_drawn (around area items relations)) items

-- a set of relations is closed where it holds all that it draws in
abbrev pub IsClosed : Area → List ItemValue → (ℤ → Bool) → Type 0
IsClosed area items set = (id : ℤ) → drawn area items set id ≡ true → set id ≡ true

-- a set of relations is the least closed one: each closed set holds it
pub record IsLeast (area : Area) (items : List ItemValue) (set : ℤ → Bool) : Type 0 where
  pub closed : IsClosed area items set
  pub least : (other : ℤ → Bool) → IsClosed area items other → (id : ℤ) → set id ≡ true → other id ≡ true

-- what is drawn in from nothing, in some rounds
abbrev pub drawn_in : Area → List ItemValue → ℕ → ℤ → Bool
drawn_in area items zero = no_ids
drawn_in area items (suc rounds) = drawn area items (drawn_in area items rounds)

-- the least closed set: what is drawn in in as many rounds as there are items
abbrev pub least_relations : Area → List ItemValue → ℤ → Bool
least_relations area items = drawn_in area items (length items)

-- a body has a ref to a node
abbrev pub has_ref : ℤ → Body → Bool
has_ref id (Node place) = false
has_ref id (Way refs) = among refs id
has_ref id (Relation members) = false

-- an item is a way of these ids, with a ref to a node
abbrev pub completes : (ℤ → Bool) → ℤ → ItemValue → Bool
completes ways id item = ways item.entity.id && has_ref id item.entity.body

-- the ids that are kept: nodes inside, ways that touch, the least relations, and all nodes of those ways where asked
abbrev pub held_sets : Area → Bool → List ItemValue → Sets
held_sets area complete items = record {
  nodes = λ id. nodes_inside area items id || complete && list_any (completes (touching_ways area items) id) items;
  ways = touching_ways area items;
  relations = least_relations area items;
}

-- the items in the sets, each clipped by the ids of all of them
abbrev pub items_chosen : Bool → Sets → List ItemValue → List ItemValue
items_chosen clip sets items =
    let chosen = filter (has_item sets) items in map (clipped clip (keys_of chosen)) chosen

-- of items that are whole those that are kept, and of broken ones none
abbrev pub items_held : Area → Bool → Bool → List ItemValue → End → List ItemValue
items_held area complete clip items Done = items_chosen clip (held_sets area complete items) items
items_held area complete clip items Broken = []

-- the stream of an area that holds its items: those that are kept of the stream that counts
unfoldable pub stream_held : Area → Bool → Bool → Stream → Stream
stream_held area complete clip s = record {
  items = items_held area complete clip (kinds_stream s).items (kinds_stream s).end;
  end = (kinds_stream s).end;
}
