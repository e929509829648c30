-- How each item is judged that is passed on, told by all items up to and with it.
-- Here the items up to one are a list; the code knows only the ids that it kept.
use Rattle.std.specs.Prelude.{◌≡◌, ℤ, Bool, true, false, cond, List, [], ◌∷◌, ◌++◌}
use Rattle.osm_area.specs.declared.area.Area.{Area}
use Rattle.osm_entity.specs.Items.{ItemValue}
use Rattle.osm_entity.specs.declared.parts.Body.{Body}
use Rattle.osm_entity.specs.declared.parts.Body.TheVariants.{Node, Way, Relation}
use Rattle.osm_select.specs.Kinds.{are_kinds_ordered}
use Rattle.osm_select.specs.Parts.{Sets, around, clipped, has_part, keys_of, nodes_inside, touching_ways}
use Rattle.osm_select.specs.Passed.{items_passed, nothing_kept}

-- a node is kept by the id of a node inside, a way by that of a way that touches, a relation by such a member or one
-- that is a relation kept earlier
abbrev pub keeps_body : Area → List ItemValue → (ℤ → Bool) → ℤ → Body → Bool
keeps_body area upto earlier id (Node place) = nodes_inside area upto id
keeps_body area upto earlier id (Way refs) = touching_ways area upto id
keeps_body area upto earlier id (Relation members) = has_part (around area upto earlier) (Relation members)

-- an item is kept behind others, by all of them and itself
abbrev pub keeps_item : Area → List ItemValue → (ℤ → Bool) → ItemValue → Bool
keeps_item area before earlier item =
    keeps_body area (before ++ item ∷ []) earlier item.entity.id item.entity.body

-- what is kept of items that are passed on
abbrev pub items_kept : Area → List ItemValue → List ItemValue
items_kept area = items_passed area false nothing_kept

-- where no kind goes back, one more item is kept by the items up to and with it
abbrev pub JudgesEach : Area → Type 0
JudgesEach area = (before : List ItemValue) (item : ItemValue) → are_kinds_ordered 0 (before ++ item ∷ []) ≡ true →
    items_kept area (before ++ item ∷ [])
    ≡ items_kept area before
    ++ cond (keeps_item area before (keys_of (items_kept area before)).relations item) (item ∷ []) []

-- the ids by which an item is clipped: the nodes and ways of all that is kept, and the relations kept earlier
abbrev pub clips_by : Area → List ItemValue → List ItemValue → Sets
clips_by area before whole = record {
  nodes = (keys_of (items_kept area whole)).nodes;
  ways = (keys_of (items_kept area whole)).ways;
  relations = (keys_of (items_kept area before)).relations;
}

-- where no kind goes back, one more item is clipped by all that is kept, also behind it, and by the relations before it
abbrev pub ClipsByOutput : Area → Type 0
ClipsByOutput area = (before : List ItemValue) (item : ItemValue) (more : List ItemValue) →
    are_kinds_ordered 0 (before ++ item ∷ more) ≡ true →
    items_passed area true nothing_kept (before ++ item ∷ [])
    ≡ items_passed area true nothing_kept before
    ++ cond (keeps_item area before (keys_of (items_kept area before)).relations item)
    (clipped true (clips_by area before (before ++ item ∷ more)) item ∷ []) []
