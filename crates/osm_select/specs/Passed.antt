-- What an area task gives that judges each item when it comes.
-- Here the ids kept so far go along the whole list; the code holds them between calls.
use Rattle.std.specs.Prelude.{ℤ, List, [], ◌∷◌, ◌++◌, Bool, false, cond, ◌||◌}
use Rattle.osm_area.specs.declared.area.Area.{Area}
use Rattle.osm_entity.specs.Items.{ItemValue, kind_of}
use Rattle.osm_entity.specs.Streams.{Stream}
use Rattle.osm_entity.specs.declared.kind.Kind.{Kind}
use Rattle.osm_entity.specs.declared.kind.Kind.TheVariants.{Node as OfNode, Way as OfWay, Relation as OfRelation}
use Rattle.osm_entity.specs.declared.parts.Body.{Body}
use Rattle.osm_entity.specs.declared.parts.Body.TheVariants.{Node, Way, Relation}
use Rattle.osm_select.specs.IdSets.{no_ids, with_id}
use Rattle.osm_select.specs.Kinds.{kinds_stream}
use Rattle.osm_select.specs.Parts.{Sets, clipped, has_part, lies_inside}

-- no id was kept yet
abbrev pub nothing_kept : Sets
nothing_kept = record { nodes = no_ids; ways = no_ids; relations = no_ids }

-- a node or a way stays where its id was kept before
abbrev pub stays_kept : Sets → ℤ → Body → Bool
stays_kept kept id (Node place) = kept.nodes id
stays_kept kept id (Way refs) = kept.ways id
stays_kept kept id (Relation members) = false

-- an item is kept where it lies inside, has a part that was kept, or is a node or way whose id was
abbrev pub is_kept : Area → Sets → ItemValue → Bool
is_kept area kept item =
    (lies_inside area item.entity.body || has_part kept item.entity.body)
    || stays_kept kept item.entity.id item.entity.body

-- the sets with one id more of a kind
abbrev pub with_key_of : Kind → ℤ → Sets → Sets
with_key_of OfNode id kept = record kept { nodes = with_id id kept.nodes }
with_key_of OfWay id kept = record kept { ways = with_id id kept.ways }
with_key_of OfRelation id kept = record kept { relations = with_id id kept.relations }

-- the ids kept after an item: its own too where it is kept
abbrev pub kept_after : Area → Sets → ItemValue → Sets
kept_after area kept item =
    cond (is_kept area kept item) (with_key_of (kind_of item.entity.body) item.entity.id kept) kept

-- what is given of an item: it, clipped by the ids kept before it, where it is kept
abbrev pub item_given : Area → Bool → Sets → ItemValue → List ItemValue
item_given area clip kept item = cond (is_kept area kept item) (clipped clip kept item ∷ []) []

-- what is given of items, each by what was kept up to it
abbrev pub items_passed : Area → Bool → Sets → List ItemValue → List ItemValue
items_passed area clip kept [] = []
items_passed area clip kept (item ∷ more) =
    item_given area clip kept item ++ items_passed area clip (kept_after area kept item) more

-- the stream of an area that passes its items on: of the stream that counts, each item by what was kept up to it
unfoldable pub stream_passed : Area → Bool → Stream → Stream
stream_passed area clip s = record {
  items = items_passed area clip nothing_kept (kinds_stream s).items;
  end = (kinds_stream s).end;
}
