-- The tags of dense nodes, index after index.
use Rattle.std.proofs.Common.{◌≡◌, ◌∙◌, ◌<◌, ◌≤◌, ◌+◌, ◌++◌, ◌∷◌, [], ℕ, ℤ, pos, negsuc, Bool, true, false, List, Option, Some, None, length, map, drop, get_or, replicate, eqb-true, refl, sym, ap, subst, append_assoc, arith}
use Rattle.std.proofs.lemmas.Bool.{ne_eqb}
use Rattle.std.proofs.lemmas.List.{append-nil, drop_more, drop_all, length-append, length-replicate, map-append}
use Rattle.std.proofs.lemmas.List.Elements.{All-head, All-tail, All-nil, All-push, All-weaker}
use Rattle.std.specs.Prelude.{All, ◌==◌, if◌then◌else◌}
use Rattle.std.specs.Option.{option_map}
use Rattle.osm_entity.specs.Prefixes.{IsPrefix}
use Rattle.osm_entity.proofs.PrefixLemmas.{prefix_itself, prefix_onward}
use Rattle.osm_wire.specs.Entries.{◌>>=◌}
use Rattle.osm_block_read.specs.Dense.{is_node_end, tags_of_all, tags_of_each, with_first_tag}
use Rattle.osm_block_read.specs.DenseTags.{IsNodeAdded, with_first_tags}
use Rattle.osm_block_read.specs.Spans.{IsPartAdded, IsSpanIn, part_in}
use Rattle.osm_block_read.specs.Told.{behind}
use Rattle.osm_block_read.specs.declared.entry.EntryTag.{EntryTag}
use Rattle.osm_block_read.specs.declared.span.Span.{Span}
use Rattle.osm_block_read.proofs.OptionLemmas.{behind-behind, behind-nil, behind-one, none_some, some_equal}
use Rattle.osm_block_read.proofs.RowLemmas.{part-added, part-grown, span-added, span-grown}

-- an end, and then the tags of the other nodes
pub tags_of_each-end : (key : ℤ) (rest : List ℤ) → is_node_end key ≡ true →
    tags_of_each (key ∷ rest) ≡ option_map (λ more. [] ∷ more) (tags_of_each rest)
tags_of_each-end key [] is = rw is refl
tags_of_each-end key (value ∷ rest) is = rw is refl

-- a tag, and then those of what follows
pub tags_of_each-tag : (key value : ℤ) (rest : List ℤ) → is_node_end key ≡ false →
    tags_of_each (key ∷ value ∷ rest) ≡ with_first_tag (record { key = key; value = value }) (tags_of_each rest)
tags_of_each-tag key value rest is = rw is refl

-- a key without a value
pub tags_of_each-short : (key : ℤ) → is_node_end key ≡ false → tags_of_each (key ∷ []) ≡ None
tags_of_each-short key is = rw is refl

-- one tag more before those of the first node
pub with_first_tags-push : (tags : List EntryTag) (tag : EntryTag) (each : Option (List (List EntryTag))) →
    with_first_tags (tags ++ tag ∷ []) each ≡ with_first_tags tags (with_first_tag tag each)
with_first_tags-push [] tag each = refl
with_first_tags-push (first ∷ tags) tag each = ap (with_first_tag first) (with_first_tags-push tags tag each)

-- tags before no node are none
pub with_first_tags-none : (tags : List EntryTag) → with_first_tags tags None ≡ None
with_first_tags-none [] = refl
with_first_tags-none (first ∷ tags) = ap (with_first_tag first) (with_first_tags-none tags)

pub with_first_tags-nil : (tags : List EntryTag) → 0 < length tags → with_first_tags tags (Some []) ≡ None
with_first_tags-nil [] some = absurd (omega (arith, some))
with_first_tags-nil (first ∷ []) some = refl
with_first_tags-nil (first ∷ second ∷ tags) some =
    ap (with_first_tag first) (with_first_tags-nil (second ∷ tags) (omega arith))

-- tags before those of a node
with_first_tags-some : (tags first : List EntryTag) (more : List (List EntryTag)) →
    with_first_tags tags (Some (first ∷ more)) ≡ Some ((tags ++ first) ∷ more)
with_first_tags-some [] first more = refl
with_first_tags-some (tag ∷ tags) first more = ap (with_first_tag tag) (with_first_tags-some tags first more)

-- tags and then the end of their node
pub with_first_tags-end : (tags : List EntryTag) (each : Option (List (List EntryTag))) →
    with_first_tags tags (option_map (λ more. [] ∷ more) each) ≡ option_map (λ more. tags ∷ more) each
with_first_tags-end tags None = with_first_tags-none tags
with_first_tags-end tags (Some more) =
    with_first_tags-some tags [] more ∙ ap (λ list. Some (list ∷ more)) (append-nil tags)

-- the tags of a node were added up to a place, where it has not ended
pub record IsNodeOpen (old new : List EntryTag) (indexes : List ℤ) (from at : ℕ) : Type 0 where
  pub added : List EntryTag
  pub joined : new ≡ old ++ added
  pub said : tags_of_each (drop from indexes) ≡ with_first_tags added (tags_of_each (drop at indexes))
  pub some : from < at → 0 < length added
  pub after : from ≤ at
  pub within : at ≤ length indexes

-- a tag more
pub open-more : (old new : List EntryTag) (indexes : List ℤ) (from at : ℕ) (key value : ℤ) →
    IsNodeOpen old new indexes from at →
    at + 1 < length indexes → key ≡ get_or indexes at (pos 0) → value ≡ get_or indexes (at + 1) (pos 0) →
    is_node_end key ≡ false →
    IsNodeOpen old (new ++ record { key = key; value = value } ∷ []) indexes from (at + 2)
open-more old new indexes from at key value opened within is_key is_value goes_on =
    let tag : EntryTag = record { key = key; value = value } in
    let here : drop at indexes ≡ key ∷ value ∷ drop (at + 2) indexes =
    drop_more indexes at (pos 0) (omega (arith, within))
    ∙ ap (λ x. x ∷ drop (at + 1) indexes) (sym is_key)
    ∙ ap (λ rest. key ∷ rest) (drop_more indexes (at + 1) (pos 0) within)
    ∙ ap (λ x. key ∷ x ∷ drop (at + 1 + 1) indexes) (sym is_value)
    ∙ ap (λ n. key ∷ value ∷ drop n indexes) (omega arith) in
    record {
      added = opened.added ++ tag ∷ [];
      joined = ap (λ tags. tags ++ tag ∷ []) opened.joined ∙ append_assoc old opened.added (tag ∷ []);
      said =
          opened.said ∙ ap (λ rest. with_first_tags opened.added (tags_of_each rest)) here
          ∙ ap (with_first_tags opened.added) (tags_of_each-tag key value (drop (at + 2) indexes) goes_on)
          ∙ sym (with_first_tags-push opened.added tag (tags_of_each (drop (at + 2) indexes)));
      some = λ past. omega (arith, length-append opened.added (tag ∷ []));
      after = omega (arith, opened.after);
      within = omega (arith, within);
    }

-- the node ends
pub open-end : (old new : List EntryTag) (indexes : List ℤ) (from at : ℕ) (key : ℤ) →
    IsNodeOpen old new indexes from at →
    at < length indexes → key ≡ get_or indexes at (pos 0) → is_node_end key ≡ true →
    IsNodeAdded old new indexes from (at + 1)
open-end old new indexes from at key opened within is_key ends =
    let here : drop at indexes ≡ key ∷ drop (at + 1) indexes =
    drop_more indexes at (pos 0) within ∙ ap (λ x. x ∷ drop (at + 1) indexes) (sym is_key) in
    record {
      added = opened.added;
      joined = opened.joined;
      said =
          opened.said ∙ ap (λ rest. with_first_tags opened.added (tags_of_each rest)) here
          ∙ ap (with_first_tags opened.added) (tags_of_each-end key (drop (at + 1) indexes) ends)
          ∙ with_first_tags-end opened.added (tags_of_each (drop (at + 1) indexes));
      further = omega (arith, opened.after);
      within = omega (arith, within);
    }

-- the list stops behind a key
pub open-short : (old new : List EntryTag) (indexes : List ℤ) (from at : ℕ) (key : ℤ) →
    IsNodeOpen old new indexes from at →
    at + 1 ≡ length indexes → key ≡ get_or indexes at (pos 0) → is_node_end key ≡ false →
    IsPrefix old new × (tags_of_each (drop from indexes) ≡ None)
open-short old new indexes from at key opened last is_key goes_on =
    let here : drop at indexes ≡ key ∷ [] =
    drop_more indexes at (pos 0) (omega (arith, last)) ∙ ap (λ x. x ∷ drop (at + 1) indexes) (sym is_key)
    ∙ ap (λ rest. key ∷ rest) (drop_all (at + 1) indexes (omega (arith, last))) in (
      record { rest = opened.added; joined = opened.joined },
      opened.said ∙ ap (λ rest. with_first_tags opened.added (tags_of_each rest)) here
          ∙ ap (with_first_tags opened.added) (tags_of_each-short key goes_on) ∙ with_first_tags-none opened.added,
    )

-- the list stops behind a value
pub open-past : (old new : List EntryTag) (indexes : List ℤ) (from at : ℕ) → IsNodeOpen old new indexes from at →
    from < length indexes → length indexes ≤ at → IsPrefix old new × (tags_of_each (drop from indexes) ≡ None)
open-past old new indexes from at opened within past = (
  record { rest = opened.added; joined = opened.joined },
  opened.said ∙ ap (λ rest. with_first_tags opened.added (tags_of_each rest)) (drop_all at indexes past)
      ∙ with_first_tags-nil opened.added (opened.some (omega (arith, within, past))),
)

-- the tags of all nodes up to a place were added, and the spans are theirs
pub record AreNodesAdded (old new : List EntryTag) (spans : List Span) (indexes : List ℤ) (at : ℕ) : Type 0 where
  pub grown : IsPrefix old new
  pub within : All (IsSpanIn (length new)) spans
  pub said : tags_of_each indexes ≡ behind (map (part_in new) spans) (tags_of_each (drop at indexes))

-- the parts of spans stay as their list grows
pub parts-grown : {T : Type 0} (xs ys : List T) (spans : List Span) → IsPrefix xs ys →
    All (IsSpanIn (length xs)) spans →
    map (part_in ys) spans ≡ map (part_in xs) spans
parts-grown xs ys [] grown within = refl
parts-grown xs ys (span ∷ spans) grown within =
    ap (λ part. part ∷ map (part_in ys) spans)
    (part-grown xs ys span grown (All-head (IsSpanIn (length xs)) span spans within))
    ∙ ap (λ parts. part_in xs span ∷ parts) (parts-grown xs ys spans grown
    (All-tail (IsSpanIn (length xs)) span spans within))

-- so do the spans
pub spans-grown : {T : Type 0} (xs ys : List T) (spans : List Span) → IsPrefix xs ys →
    All (IsSpanIn (length xs)) spans →
    All (IsSpanIn (length ys)) spans
spans-grown xs ys spans grown within =
    All-weaker (IsSpanIn (length xs)) (IsSpanIn (length ys)) (λ span. span-grown xs ys span grown) spans within

-- a node more
pub nodes-more : (old new more : List EntryTag) (spans : List Span) (span : Span) (indexes : List ℤ) (at next : ℕ) →
    AreNodesAdded old new spans indexes at → IsNodeAdded new more indexes at next → span.start ≡ length new →
    span.end ≡ length more →
    AreNodesAdded old more (spans ++ span ∷ []) indexes next
nodes-more old new more spans span indexes at next nodes node start end =
    let grown : IsPrefix new more = record { rest = node.added; joined = node.joined } in
    let added : IsPartAdded new more node.added span = record { joined = node.joined; start = start; end = end } in
    let parts : map (part_in more) (spans ++ span ∷ []) ≡ map (part_in new) spans ++ node.added ∷ [] =
    map-append (part_in more) spans (span ∷ [])
    ∙ ap (λ first. first ++ part_in more span ∷ []) (parts-grown new more spans grown nodes.within)
    ∙ ap (λ part. map (part_in new) spans ++ part ∷ []) (part-added new more node.added span added) in
    record {
      grown = prefix_onward old new more nodes.grown grown;
      within =
          All-push (IsSpanIn (length more)) spans span (spans-grown new more spans grown nodes.within)
          (span-added new more node.added span added);
      said =
          nodes.said ∙ ap (behind (map (part_in new) spans))
          (node.said ∙ behind-one node.added (tags_of_each (drop next indexes)))
          ∙ behind-behind (map (part_in new) spans) (node.added ∷ []) (tags_of_each (drop next indexes))
          ∙ ap (λ each. behind each (tags_of_each (drop next indexes))) (sym parts);
    }

-- 0 in the place of a key, and nothing else, is the end of a node
pub node-end : (key : ℤ) → key ≡ pos 0 → is_node_end key ≡ true
node-end key is = ap is_node_end is

pub node-goes_on : (key : ℤ) → (key ≡ pos 0 → ⊥) → is_node_end key ≡ false
node-goes_on (pos n) other = ne_eqb n 0 (λ is. other (ap pos is))
node-goes_on (negsuc n) other = refl

-- no node was added yet
pub nodes-none : (tags : List EntryTag) (spans : List Span) (indexes : List ℤ) → spans ≡ [] →
    AreNodesAdded tags tags spans indexes 0
nodes-none tags spans indexes none =
    subst (λ s. AreNodesAdded tags tags s indexes 0) (sym none)
    (record {
      grown = prefix_itself tags;
      within = All-nil (IsSpanIn (length tags));
      said = sym (behind-nil (tags_of_each indexes));
    })

if-some : {X : Type 0} (b : Bool) (x y : X) → (if b then Some x else None) ≡ Some y → (b ≡ true) × (x ≡ y)
if-some true x y is = (refl, some_equal x y is)
if-some false x y is = absurd (none_some y is)

each-count : (count : ℕ) (said : Option (List (List EntryTag))) (each : List (List EntryTag)) →
    (said >>= (λ e. if length e == count then Some e else None)) ≡ Some each → length each ≡ count
each-count count None each is = absurd (none_some each is)
each-count count (Some e) each is =
    let found = if-some (length e == count) e each is in
    ap length (sym found.1) ∙ eqb-true (length e) count found.0

-- the nodes that have tags are as many as they should
pub tags_of_all-count : (count : ℕ) (indexes : List ℤ) (each : List (List EntryTag)) →
    tags_of_all count indexes ≡ Some each →
    length each ≡ count
tags_of_all-count count [] each is =
    ap length (sym (some_equal (replicate count []) each is)) ∙ length-replicate count []
tags_of_all-count count (index ∷ indexes) each is = each-count count (tags_of_each (index ∷ indexes)) each is
