-- Dense nodes from their codes, node after node.
use Rattle.std.proofs.Common.{◌≡◌, ◌∙◌, ◌<◌, ◌⊎◌, inl, inr, ◌+◌, ◌++◌, ◌∷◌, [], ℕ, ℤ, pos, negsuc, Bool, true, false, List, length, map, get_or, Option, Some, None, w32, w64, refl, sym, ap, subst, append_assoc, add-one, eqb-true, arith}
use Rattle.std.specs.Prelude.{◌==◌, ◌&&◌, All, slice_get, if◌then◌else◌}
use Rattle.std.specs.List.{range_with_len}
use Rattle.std.specs.Option.{option_map}
use Rattle.std.specs.Int.{int_wrap}
use Rattle.std.proofs.lemmas.Bool.{cases_eq}
use Rattle.std.proofs.lemmas.Bool.Decides.{nat_tests}
use Rattle.std.proofs.lemmas.List.{get_or-map, length-map}
use Rattle.std.proofs.lemmas.List.FromFn.{map-range_with_len_more}
use Rattle.std.proofs.lemmas.Option.{get_or_from_slice_get}
use Rattle.osm_entity.proofs.PrefixLemmas.{prefix_itself}
use Rattle.osm_entity.specs.Prefixes.{IsPrefix}
use Rattle.osm_wire.specs.Integers.{int32, sint32, truth, unzigzagged}
use Rattle.osm_block_read.specs.Dense.{are_lengths_fit, dense_entries, dense_entry_at, dense_info_at, is_full, tags_of_all}
use Rattle.osm_block_read.specs.DenseCodes.{AreSums, IsDenseAdded, are_codes_even, dense_info_of, dense_of, dense_row, sum_before}
use Rattle.osm_block_read.specs.DenseTags.{AreTagsAdded}
use Rattle.osm_block_read.specs.Entries.{At, Entry}
use Rattle.osm_block_read.specs.Numbers.{summed}
use Rattle.osm_block_read.specs.Rows.{AreGrown, AreRowsIn, IsAdded, IsRowIn, entries_in, entries_of, entry_in}
use Rattle.osm_block_read.specs.Spans.{IsSpanIn, part_in}
use Rattle.osm_block_read.specs.declared.dense_codes.DenseCodes.{DenseCodes}
use Rattle.osm_block_read.specs.declared.dense_codes.DenseSums.{DenseSums}
use Rattle.osm_block_read.specs.declared.entry.EntryInfo.{EntryInfo}
use Rattle.osm_block_read.specs.declared.entry.EntryTag.{EntryTag}
use Rattle.osm_block_read.specs.declared.row.Lists.{Lists}
use Rattle.osm_block_read.specs.declared.row.Row.{Row}
use Rattle.osm_block_read.specs.declared.row.Rows.{Rows}
use Rattle.osm_block_read.specs.declared.span.Span.{Span}
use Rattle.osm_block_read.proofs.PieceLemmas.{and_left, and_right}
use Rattle.osm_block_read.proofs.RowLemmas.{entries-grown, row-added}
use Rattle.osm_block_read.proofs.SumLemmas.{length-summed, sum-at, summed-at}
use Rattle.osm_block_read.proofs.TagLemmas.{tags_of_all-count}

-- 0 is the same in 64 and in 32 bits
wrapped-none64 : int_wrap w64 (pos 0) ≡ pos 0
unfolding int_wrap
wrapped-none64 = refl

wrapped-none32 : int_wrap w32 (pos 0) ≡ pos 0
unfolding int_wrap
wrapped-none32 = refl

-- a full list is empty or has the length
pub is_full-cases : {T : Type 0} (count : ℕ) (list : List T) → is_full count list ≡ true →
    (length list ≡ 0) ⊎ (length list ≡ count)
is_full-cases count list full = elim (cases_eq (length list) 0) [
  | inl none ↦ inl none
  | inr some ↦ inr (grind (arith, nat_tests, full, some))
]

-- the tests of the lengths, one after the other
abbrev even-places : DenseCodes → Bool
even-places c = (length c.lats.items == length c.ids.items) && (length c.lons.items == length c.ids.items)

abbrev even-versions : DenseCodes → Bool
even-versions c = even-places c && is_full (length c.ids.items) c.versions.items

abbrev even-timestamps : DenseCodes → Bool
even-timestamps c = even-versions c && is_full (length c.ids.items) c.timestamps.items

abbrev even-changesets : DenseCodes → Bool
even-changesets c = even-timestamps c && is_full (length c.ids.items) c.changesets.items

abbrev even-uids : DenseCodes → Bool
even-uids c = even-changesets c && is_full (length c.ids.items) c.uids.items

abbrev even-users : DenseCodes → Bool
even-users c = even-uids c && is_full (length c.ids.items) c.users.items

-- tests one after the other, however they are grouped
grouped : (p v t c u s w : Bool) →
    p && (v && t && c && u && s && w) ≡ p && v && t && c && u && s && w
grouped true v t c u s w = refl
grouped false v t c u s w = refl

-- the numbers of dense nodes are as many as their codes
pub are_lengths_fit-codes : (c : DenseCodes) → are_lengths_fit (dense_of c) ≡ are_codes_even c
are_lengths_fit-codes c =
    let count : ℕ = length c.ids.items in
    rw (
      length-summed w64 unzigzagged c.ids.items,
      length-summed w64 unzigzagged c.lats.items,
      length-summed w64 unzigzagged c.lons.items,
      length-map c.versions.items int32,
      length-summed w64 unzigzagged c.timestamps.items,
      length-summed w64 unzigzagged c.changesets.items,
      length-summed w32 sint32 c.uids.items,
      length-summed w32 sint32 c.users.items,
      length-map c.visibles.items truth,
    )
    (grouped (even-places c) (is_full count c.versions.items) (is_full count c.timestamps.items)
    (is_full count c.changesets.items)
    (is_full count c.uids.items) (is_full count c.users.items) (is_full count c.visibles.items))

-- each list of codes that are summed has the length of the ids, or may be empty
pub record AreEven (c : DenseCodes) : Type 0 where
  pub lats : length c.lats.items ≡ length c.ids.items
  pub lons : length c.lons.items ≡ length c.ids.items
  pub timestamps : (length c.timestamps.items ≡ 0) ⊎ (length c.timestamps.items ≡ length c.ids.items)
  pub changesets : (length c.changesets.items ≡ 0) ⊎ (length c.changesets.items ≡ length c.ids.items)
  pub uids : (length c.uids.items ≡ 0) ⊎ (length c.uids.items ≡ length c.ids.items)
  pub users : (length c.users.items ≡ 0) ⊎ (length c.users.items ≡ length c.ids.items)

pub even-parts : (c : DenseCodes) → are_codes_even c ≡ true → AreEven c
even-parts c even =
    let count : ℕ = length c.ids.items in
    let users : even-users c ≡ true = and_left (even-users c) (is_full count c.visibles.items) even in
    let uids : even-uids c ≡ true = and_left (even-uids c) (is_full count c.users.items) users in
    let changesets : even-changesets c ≡ true = and_left (even-changesets c) (is_full count c.uids.items) uids in
    let timestamps : even-timestamps c ≡ true = and_left (even-timestamps c)
    (is_full count c.changesets.items) changesets in
    let versions : even-versions c ≡ true = and_left (even-versions c) (is_full count c.timestamps.items) timestamps in
    let places : even-places c ≡ true = and_left (even-places c) (is_full count c.versions.items) versions in
    record {
      lats = eqb-true (length c.lats.items) count
          (and_left (length c.lats.items == count) (length c.lons.items == count) places);
      lons = eqb-true (length c.lons.items) count
          (and_right (length c.lats.items == count) (length c.lons.items == count) places);
      timestamps = is_full-cases count c.timestamps.items (and_right (even-versions c)
          (is_full count c.timestamps.items) timestamps);
      changesets = is_full-cases count c.changesets.items
          (and_right (even-timestamps c) (is_full count c.changesets.items) changesets);
      uids = is_full-cases count c.uids.items (and_right (even-changesets c) (is_full count c.uids.items) uids);
      users = is_full-cases count c.users.items (and_right (even-uids c) (is_full count c.users.items) users);
    }

-- the metadata of a node by the sums up to it
pub dense-info : (c : DenseCodes) (at : ℕ) (s : DenseSums) → are_codes_even c ≡ true → at < length c.ids.items →
    AreSums c (at + 1) s →
    dense_info_at (dense_info_of c) at ≡ record {
      version = get_or (map int32 c.versions.items) at (negsuc 0);
      timestamp = s.timestamp;
      changeset = s.changeset;
      uid = s.uid;
      user = s.user;
      visible = get_or (map truth c.visibles.items) at true;
    }
dense-info c at s even within sums =
    let parts = even-parts c even in
    let count : ℕ = length c.ids.items in
    let timestamp : get_or (summed w64 (map unzigzagged c.timestamps.items)) at (pos 0) ≡ s.timestamp =
    sum-at w64 unzigzagged c.timestamps.items count at refl wrapped-none64 parts.timestamps within
    ∙ ap (sum_before w64 unzigzagged c.timestamps.items) (sym (add-one at)) ∙ sym sums.timestamp in
    let changeset : get_or (summed w64 (map unzigzagged c.changesets.items)) at (pos 0) ≡ s.changeset =
    sum-at w64 unzigzagged c.changesets.items count at refl wrapped-none64 parts.changesets within
    ∙ ap (sum_before w64 unzigzagged c.changesets.items) (sym (add-one at)) ∙ sym sums.changeset in
    let uid : get_or (summed w32 (map sint32 c.uids.items)) at (pos 0) ≡ s.uid =
    sum-at w32 sint32 c.uids.items count at refl wrapped-none32 parts.uids within
    ∙ ap (sum_before w32 sint32 c.uids.items) (sym (add-one at)) ∙ sym sums.uid in
    let user : get_or (summed w32 (map sint32 c.users.items)) at (pos 0) ≡ s.user =
    sum-at w32 sint32 c.users.items count at refl wrapped-none32 parts.users within
    ∙ ap (sum_before w32 sint32 c.users.items) (sym (add-one at)) ∙ sym sums.user in
    rw (timestamp, changeset, uid, user) refl

-- a node by the sums up to it, its metadata and its tags
pub dense-entry : (c : DenseCodes) (tags : List EntryTag) (spans : List Span) (span : Span) (at : ℕ) (s : DenseSums)
    (info : EntryInfo) →
    are_codes_even c ≡ true → at < length c.ids.items → at < length spans → AreSums c (at + 1) s →
    info ≡ dense_info_at (dense_info_of c) at → span ≡ get_or spans at span →
    record { even = true; id = s.id; info = info; tags = part_in tags span; body = At s.lat s.lon }
    ≡ dense_entry_at (dense_of c) (map (part_in tags) spans) at
dense-entry c tags spans span at s info even within in_spans sums is_info is_span =
    let parts = even-parts c even in
    let id : get_or (summed w64 (map unzigzagged c.ids.items)) at (pos 0) ≡ s.id =
    summed-at w64 unzigzagged c.ids.items at within ∙ ap (sum_before w64 unzigzagged c.ids.items) (sym (add-one at))
    ∙ sym sums.id in
    let lat : get_or (summed w64 (map unzigzagged c.lats.items)) at (pos 0) ≡ s.lat =
    summed-at w64 unzigzagged c.lats.items at (omega (arith, within, parts.lats))
    ∙ ap (sum_before w64 unzigzagged c.lats.items) (sym (add-one at)) ∙ sym sums.lat in
    let lon : get_or (summed w64 (map unzigzagged c.lons.items)) at (pos 0) ≡ s.lon =
    summed-at w64 unzigzagged c.lons.items at (omega (arith, within, parts.lons))
    ∙ ap (sum_before w64 unzigzagged c.lons.items) (sym (add-one at)) ∙ sym sums.lon in
    let part : get_or (map (part_in tags) spans) at [] ≡ part_in tags span =
    get_or-map (part_in tags) spans at span [] in_spans ∙ ap (part_in tags) (sym is_span) in
    rw (id, lat, lon, part, is_info) refl

-- lists that stay have grown by nothing
same-grown : (a b : Lists) → b ≡ a → AreGrown a b
same-grown a b same = record {
  tags = subst (λ l. IsPrefix a.tags.items l.tags.items) (sym same) (prefix_itself a.tags.items);
  refs = subst (λ l. IsPrefix a.refs.items l.refs.items) (sym same) (prefix_itself a.refs.items);
  members = subst (λ l. IsPrefix a.members.items l.members.items) (sym same) (prefix_itself a.members.items);
}

-- a dense node more behind those that were added
pub node-added : (old now new : Rows) (c : DenseCodes) (spans : List Span) (at : ℕ) (s : DenseSums) (info : EntryInfo)
    (span : Span)
    (row : Row) → are_codes_even c ≡ true → length spans ≡ length c.ids.items →
    All (IsSpanIn (length old.lists.tags.items)) spans → at < length spans → AreRowsIn now →
    entries_of now ≡ entries_of old
    ++ map (dense_entry_at (dense_of c) (map (part_in old.lists.tags.items) spans)) (range_with_len 0 at) →
    now.lists ≡ old.lists → AreSums c (at + 1) s → info ≡ dense_info_at (dense_info_of c) at →
    slice_get spans at ≡ Some span →
    row ≡ dense_row s info span → new.rows.items ≡ now.rows.items ++ row ∷ [] → new.lists ≡ now.lists →
    AreRowsIn new × (entries_of new ≡ entries_of old
    ++ map (dense_entry_at (dense_of c) (map (part_in old.lists.tags.items) spans)) (range_with_len 0 (at + 1)))
node-added old now new c spans at s info span row even count in_list within rows entries lists sums is_info found is_row
    pushed same =
    let tags : List EntryTag = old.lists.tags.items in
    let node : ℕ → Entry = dense_entry_at (dense_of c) (map (part_in tags) spans) in
    let is_span : span ≡ get_or spans at span = sym (get_or_from_slice_get spans at span span found) in
    let span_in : IsSpanIn (length tags) span =
    subst (IsSpanIn (length tags)) (sym is_span) (in_list at span within) in
    let all : new.lists ≡ old.lists = same ∙ lists in
    let row_in : IsRowIn old.lists (dense_row s info span) = record { tags = span_in; body = tt } in
    let row_in_new : IsRowIn new.lists row =
    subst (IsRowIn new.lists) (sym is_row) (subst (λ l. IsRowIn l (dense_row s info span)) (sym all) row_in) in
    let added = row-added now new row rows (same-grown now.lists new.lists same) pushed row_in_new in
    let entry : entry_in new.lists row ≡ node at =
    ap (λ l. entry_in l row) all ∙ ap (entry_in old.lists) is_row
    ∙ dense-entry c tags spans span at s info even (omega (arith, within, count)) within sums is_info is_span in (
      added.within,
      added.joined ∙ ap (λ more. entries_of now ++ more ∷ []) entry ∙ ap (λ list. list ++ node at ∷ []) entries
          ∙ append_assoc (entries_of old) (map node (range_with_len 0 at)) (node at ∷ [])
          ∙ ap (λ more. entries_of old ++ more) (sym (map-range_with_len_more node 0 at at (omega arith))),
    )

-- the nodes of lists of codes, where their lengths fit
abbrev nodes_if : Bool → DenseCodes → Option (List Entry)
nodes_if fit c = if fit
    then option_map (λ each. map (dense_entry_at (dense_of c) each)
    (range_with_len 0 (length (summed w64 (map unzigzagged c.ids.items)))))
    (tags_of_all (length (summed w64 (map unzigzagged c.ids.items))) (map int32 c.keys_vals.items))
    else None

-- the nodes where their tags are these
abbrev nodes_with : DenseCodes → List (List EntryTag) → List Entry
nodes_with c each = map (dense_entry_at (dense_of c) each) (range_with_len 0 (length c.ids.items))

-- codes whose lengths don't fit
pub dense-uneven_codes : (c : DenseCodes) → are_codes_even c ≡ false → dense_entries (dense_of c) ≡ None
dense-uneven_codes c uneven = ap (λ fit. nodes_if fit c) (are_lengths_fit-codes c ∙ uneven)

-- codes whose lengths fit, but perhaps not those of the tags
dense-even_codes : (c : DenseCodes) (said : Option (List (List EntryTag))) → are_codes_even c ≡ true →
    tags_of_all (length c.ids.items) (map int32 c.keys_vals.items) ≡ said →
    dense_entries (dense_of c) ≡ option_map (nodes_with c) said
dense-even_codes c said even is =
    ap (λ fit. nodes_if fit c) (are_lengths_fit-codes c ∙ even)
    ∙ ap (λ n. option_map (λ each. map (dense_entry_at (dense_of c) each) (range_with_len 0 n))
    (tags_of_all n (map int32 c.keys_vals.items)))
    (length-summed w64 unzigzagged c.ids.items)
    ∙ ap (option_map (nodes_with c)) is

-- tags that don't fit
pub dense-bad_tags : (c : DenseCodes) → are_codes_even c ≡ true →
    tags_of_all (length c.ids.items) (map int32 c.keys_vals.items) ≡ None → dense_entries (dense_of c) ≡ None
dense-bad_tags c even none = dense-even_codes c None even none

-- lists whose tags grew have grown
pub tags-grown : (a b : Lists) → IsPrefix a.tags.items b.tags.items → b.refs ≡ a.refs → b.members ≡ a.members →
    AreGrown a b
tags-grown a b tags refs members = record {
  tags = tags;
  refs = subst (λ v. IsPrefix a.refs.items v.items) (sym refs) (prefix_itself a.refs.items);
  members = subst (λ v. IsPrefix a.members.items v.items) (sym members) (prefix_itself a.members.items);
}

-- the spans of the tags of all nodes, which are as many as the nodes
pub spans-count : (old new : List EntryTag) (spans : List Span) (count : ℕ) (indexes : List ℤ) →
    AreTagsAdded old new spans (tags_of_all count indexes) true → length spans ≡ count
spans-count old new spans count indexes added =
    sym (length-map spans (part_in new)) ∙ ap length added.2.parts ∙ tags_of_all-count count indexes added.0 added.1

-- nodes were added, whose tags were added before them
pub dense-added : (old mid new : Rows) (c : DenseCodes) (spans : List Span) → AreRowsIn old → are_codes_even c ≡ true →
    mid.rows ≡ old.rows →
    AreGrown old.lists mid.lists →
    AreTagsAdded old.lists.tags.items mid.lists.tags.items spans
    (tags_of_all (length c.ids.items) (map int32 c.keys_vals.items)) true →
    IsAdded mid new (nodes_with c (map (part_in mid.lists.tags.items) spans)) →
    IsDenseAdded old new (dense_entries (dense_of c)) true
dense-added old mid new c spans rows even same grown tags added =
    let parts : List (List EntryTag) = map (part_in mid.lists.tags.items) spans in
    let entries : entries_of mid ≡ entries_of old =
    ap (λ v. entries_in mid.lists v.items) same ∙ entries-grown old.lists mid.lists old.rows.items grown rows in (
      nodes_with c parts,
      dense-even_codes c (Some tags.0) even tags.1 ∙ ap (λ each. Some (nodes_with c each)) (sym tags.2.parts),
      record { within = added.within; joined = added.joined ∙ ap (λ list. list ++ nodes_with c parts) entries },
    )
