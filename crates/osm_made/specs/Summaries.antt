-- Summaries: how many entities there are among some items, what they have, and what they weigh.
-- Here each number is a count or a sum over the whole list; the code adds to seven numbers, item by item.
use Rattle.std.specs.Prelude.{◌≡◌, ℕ, ◌-◌, ◌^◌, min, ◌==◌, List, [], ◌∷◌, ◌++◌, length, Bool, sum_by, codes, decimal}
use Rattle.std.specs.List.{count_by}
use Rattle.osm_entity.specs.Ascii.{newline, space}
use Rattle.osm_entity.specs.Entities.{weight_of}
use Rattle.osm_entity.specs.Items.{ItemValue, kind_of}
use Rattle.osm_entity.specs.Keys.{kind_rank}
use Rattle.osm_entity.specs.Streams.{Stream}
use Rattle.osm_entity.specs.declared.kind.Kind.{Kind}
use Rattle.osm_entity.specs.declared.kind.Kind.TheVariants.{Node as OfNode, Way as OfWay, Relation as OfRelation}
use Rattle.osm_entity.specs.declared.parts.Body.{Body}
use Rattle.osm_entity.specs.declared.parts.Body.TheVariants.{Node, Way, Relation}
use Rattle.osm_entity.specs.declared.stream.End.{End}
use Rattle.osm_entity.specs.declared.stream.End.TheVariants.{Done, Broken}

-- an item is of a kind
abbrev pub is_item_of : Kind → ItemValue → Bool
is_item_of kind item = kind_rank (kind_of item.entity.body) == kind_rank kind

-- how many refs a body has
abbrev pub ref_count : Body → ℕ
ref_count (Node place) = 0
ref_count (Way refs) = length refs
ref_count (Relation members) = 0

-- how many members a body has
abbrev pub member_count : Body → ℕ
member_count (Node place) = 0
member_count (Way refs) = 0
member_count (Relation members) = length members

-- what a summary tells: how many nodes, ways, relations, tags, refs and members there are, and what all weighs
pub record Summed : Type 0 where
  pub nodes : ℕ
  pub ways : ℕ
  pub relations : ℕ
  pub tags : ℕ
  pub refs : ℕ
  pub members : ℕ
  pub weight : ℕ

-- a number that stops at the greatest one of 64 bits
abbrev pub capped : ℕ → ℕ
capped n = min n (2 ^ 64 - 1)

-- the counts and sums over some items
abbrev pub summed_over : List ItemValue → Summed
summed_over items = record {
  nodes = capped (count_by (is_item_of OfNode) items);
  ways = capped (count_by (is_item_of OfWay) items);
  relations = capped (count_by (is_item_of OfRelation) items);
  tags = capped (sum_by (λ item. length item.entity.tags) items);
  refs = capped (sum_by (λ item. ref_count item.entity.body) items);
  members = capped (sum_by (λ item. member_count item.entity.body) items);
  weight = capped (sum_by (λ item. weight_of item.entity) items);
}

-- a line of a summary: a word, a space, a number and a newline
abbrev pub summary_line : List ℕ → ℕ → List ℕ
summary_line word n = word ++ space ∷ decimal n ++ newline ∷ []

-- the seven lines
unfoldable pub summary_lines : Summed → List ℕ
summary_lines s =
    summary_line (codes "nodes") s.nodes
    ++ summary_line (codes "ways") s.ways
    ++ summary_line (codes "relations") s.relations
    ++ summary_line (codes "tags") s.tags
    ++ summary_line (codes "refs") s.refs
    ++ summary_line (codes "members") s.members
    ++ summary_line (codes "weight") s.weight

-- the summary of some items: the seven lines of their counts and sums
abbrev pub summary_of : List ItemValue → List ℕ
summary_of items = summary_lines (summed_over items)

-- a summary stands for some items: it has their counts and sums
pub record StandsForItems (s : Summed) (items : List ItemValue) : Type 0 where
  pub summed : s ≡ summed_over items

-- what a writer of summaries has written at an end: the summary, and nothing where its items broke off
abbrev pub summary_at : End → List ItemValue → List ℕ
summary_at Done items = summary_of items
summary_at Broken items = []

-- the text of a stream's summary: that of its items, and none where it is broken
abbrev pub summary_text : Stream → List ℕ
summary_text s = summary_at s.end s.items
