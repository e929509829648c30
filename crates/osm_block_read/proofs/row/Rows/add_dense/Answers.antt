use Rattle.std.proofs.Common.{◌≡◌, ◌∙◌, ℕ, Bool, List, Option, true, false, ap, length, map, refl, rules, subst, sym}
use Rattle.std.specs.List.{range_with_len}
use Rattle.osm_wire.specs.Integers.{int32}
use Rattle.osm_block_read.specs.Dense.{dense_entry_at, tags_of_all}
use Rattle.osm_block_read.specs.DenseCodes.{are_codes_even, dense_of}
use Rattle.osm_block_read.specs.DenseTags.{AreTagsAdded}
use Rattle.osm_block_read.specs.Rows.{IsAdded}
use Rattle.osm_block_read.specs.Spans.{part_in}
use Rattle.osm_block_read.specs.declared.entry.EntryTag.{EntryTag}
use Rattle.osm_block_read.specs.declared.span.Span.{Span}
use Rattle.osm_block_read.proofs.DenseLemmas.{dense-added, dense-bad_tags, dense-uneven_codes, spans-count, tags-grown}
use Rattle.osm_block_read.proofs.RowLemmas.{rows-grown}
use Rattle.osm_block_read.proofs.row.Rows.add_dense.Goals as goal

pub returns-then-not-are_even : goal.returns-then-not-are_even
returns-then-not-are_even c =
    let uneven : are_codes_even c.args.codes.now ≡ false = search rules in
    (c.requires, dense-uneven_codes c.args.codes.now uneven)

pub returns-then-not-fits : goal.returns-then-not-fits
returns-then-not-fits c =
    let old = c.args.self.now in
    let codes = c.args.codes.now in
    let even : are_codes_even codes ≡ true = search rules in
    let count : c.len-count.result ≡ length codes.ids.items = search rules in
    let fits : c.in_ok-fits.fits ≡ false = search rules in
    let added =
    subst
    (λ (b : Bool). AreTagsAdded old.lists.tags.items c.add_dense_tags.new.self.tags.items
    c.add_dense_tags.new.spans.items
    (tags_of_all c.len-count.result (map int32 c.as_slice.result.now)) b) fits c.in_ok-fits.ensures.added in
    let grown =
    tags-grown old.lists c.add_dense_tags.new.self added.0 c.add_dense_tags.ensures.refs
    c.add_dense_tags.ensures.members in (
      rows-grown old.lists c.add_dense_tags.new.self old.rows.items grown c.requires,
      dense-bad_tags codes even
          (ap (λ n. tags_of_all n (map int32 codes.keys_vals.items)) (sym count)
          ∙ ap (λ list. tags_of_all c.len-count.result (map int32 list)) (sym c.as_slice.ensures.value) ∙ added.1),
    )

pub add_nodes-requires-clause-count : goal.add_nodes-requires-clause-count
add_nodes-requires-clause-count c =
    let fits : c.in_ok-fits.fits ≡ true = search rules in
    let count : c.len-count.result ≡ length c.args.codes.now.ids.items = search rules in
    let added =
    subst
    (λ (b : Bool). AreTagsAdded c.args.self.now.lists.tags.items c.add_dense_tags.new.self.tags.items
    c.add_dense_tags.new.spans.items (tags_of_all c.len-count.result (map int32 c.as_slice.result.now)) b) fits
    c.in_ok-fits.ensures.added in
    ap length c.as_slice-2.ensures.value
    ∙ spans-count c.args.self.now.lists.tags.items c.add_dense_tags.new.self.tags.items c.add_dense_tags.new.spans.items
    c.len-count.result (map int32 c.as_slice.result.now) added
    ∙ count

pub returns : goal.returns
returns c =
    let old = c.args.self.now in
    let codes = c.args.codes.now in
    let lists = c.add_dense_tags.new.self in
    let spans = c.add_dense_tags.new.spans.items in
    let even : are_codes_even codes ≡ true = search rules in
    let fits : c.in_ok-fits.fits ≡ true = search rules in
    let count : c.len-count.result ≡ length codes.ids.items = search rules in
    let added =
    subst
    (λ (b : Bool). AreTagsAdded old.lists.tags.items lists.tags.items spans
    (tags_of_all c.len-count.result (map int32 c.as_slice.result.now)) b) fits c.in_ok-fits.ensures.added in
    let said =
    ap (λ (n : ℕ). tags_of_all n (map int32 c.as_slice.result.now)) count
    ∙ ap (λ (list : List ℕ). tags_of_all (length codes.ids.items) (map int32 list)) c.as_slice.ensures.value in
    let tags =
    subst (λ (s : Option (List (List EntryTag))). AreTagsAdded old.lists.tags.items lists.tags.items spans s true) said
    added in
    let grown = tags-grown old.lists lists added.2.grown c.add_dense_tags.ensures.refs c.add_dense_tags.ensures.members
    in
    let nodes =
    subst
    (λ (s : List Span). IsAdded (record { rows = old.rows; lists = lists }) c.add_nodes.new.self
    (map (dense_entry_at (dense_of codes) (map (part_in lists.tags.items) s))
    (range_with_len 0 (length codes.ids.items))))
    c.as_slice-2.ensures.value c.in_ok-add_nodes.ensures in
    dense-added old (record { rows = old.rows; lists = lists }) c.add_nodes.new.self codes spans c.requires even refl
    grown tags nodes
