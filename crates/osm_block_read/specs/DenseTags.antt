-- The tags of dense nodes as the code adds them to the list of all tags.
-- Here the tags of all nodes are known from the whole list of indexes; the code goes through it once.
use Rattle.std.specs.Prelude.{ℕ, ℤ, ◌≡◌, ◌<◌, ◌≤◌, ◌++◌, ◌∷◌, [], List, length, map, drop, All, Option, Some, None, Bool, true, false}
use Rattle.std.specs.Option.{option_map}
use Rattle.osm_entity.specs.Prefixes.{IsPrefix}
use Rattle.osm_block_read.specs.Dense.{tags_of_each, with_first_tag}
use Rattle.osm_block_read.specs.Spans.{IsSpanIn, part_in}
use Rattle.osm_block_read.specs.declared.entry.EntryTag.{EntryTag}
use Rattle.osm_block_read.specs.declared.span.Span.{Span}

-- tags before those of the first node
abbrev pub with_first_tags : List EntryTag → Option (List (List EntryTag)) → Option (List (List EntryTag))
with_first_tags [] each = each
with_first_tags (tag ∷ tags) each = with_first_tag tag (with_first_tags tags each)

-- the tags of a node were added, whose indexes begin at a place and end before the next
pub record IsNodeAdded (old new : List EntryTag) (indexes : List ℤ) (from next : ℕ) : Type 0 where
  pub added : List EntryTag
  pub joined : new ≡ old ++ added
  pub said : tags_of_each (drop from indexes) ≡ option_map (λ more. added ∷ more) (tags_of_each (drop next indexes))
  pub further : from < next
  pub within : next ≤ length indexes

-- the tags of the node at a place were added; or the list stops before its end, and some were added
abbrev pub AreNodeTags : List EntryTag → List EntryTag → List ℤ → ℕ → Option ℕ → Type 0
AreNodeTags old new indexes from None = IsPrefix old new × (tags_of_each (drop from indexes) ≡ None)
AreNodeTags old new indexes from (Some next) = IsNodeAdded old new indexes from next

-- the tags of nodes were added, and the spans are theirs
pub record AreSpansOf (old new : List EntryTag) (spans : List Span) (each : List (List EntryTag)) : Type 0 where
  pub grown : IsPrefix old new
  pub within : All (IsSpanIn (length new)) spans
  pub parts : map (part_in new) spans ≡ each

-- the tags of each node were added, where they are said and are as many as they should; else some were added
abbrev pub AreTagsAdded : List EntryTag → List EntryTag → List Span → Option (List (List EntryTag)) → Bool → Type 0
AreTagsAdded old new spans said true = (each : List (List EntryTag)) × (said ≡ Some each)
    × AreSpansOf old new spans each
AreTagsAdded old new spans said false = IsPrefix old new × (said ≡ None)
