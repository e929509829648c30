-- The entries of dense nodes that were read back are those of the run.
use Rattle.std.proofs.Common.{◌≡◌, ◌∙◌, ◌<◌, ◌^◌, ◌++◌, ◌∷◌, [], ℕ, ℤ, pos, List, Some, Bool, true, false, length, map, refl, sym, ap, lit<, arith, get_or, append-nil}
use Rattle.std.specs.Prelude.{negsuc, if◌then◌else◌}
use Rattle.std.specs.List.{AllByRecursion as Each, range_with_len}
use Rattle.std.specs.Option.{option_map}
use Rattle.std.proofs.lemmas.Bool.{eq-eqb}
use Rattle.std.proofs.lemmas.List.{get_or-map, get_or_past, length-map, same_lists}
use Rattle.std.proofs.lemmas.List.Elements.{All-from_recursion, All-get_or}
use Rattle.std.proofs.lemmas.List.FromFn.{get_or-map-range_with_len, length-map-range_with_len}
use Rattle.osm_entity.specs.Entities.{EntityValue}
use Rattle.osm_entity.specs.Items.{kind_of}
use Rattle.osm_entity.specs.declared.kind.Kind.TheVariants.{Node as OfNode}
use Rattle.osm_wire.specs.Messages.{FieldValue}
use Rattle.osm_wire.specs.Written.{written_message}
use Rattle.osm_block_read.specs.Block.{Group, group, group_entries}
use Rattle.osm_block_read.specs.Dense.{DenseInfo, are_lengths_fit, dense_entries, dense_entry_at, dense_info_at, is_full, is_info_full, no_dense_info}
use Rattle.osm_block_read.specs.declared.entry.EntryTag.{EntryTag}
use Rattle.osm_block_write.specs.declared.options.PbfOptions.{PbfOptions}
use Rattle.osm_block_write.specs.Columns.{bytes_field}
use Rattle.osm_block_write.specs.Messages.{dense_fields, lat_in, lon_in, place_in}
use Rattle.osm_block_write.specs.Numbered.{Numbered, user_number, with_numbers}
use Rattle.osm_pbf.proofs.DenseBackLemmas.{IsKeyed, info_columns, tags-all}
use Rattle.osm_pbf.proofs.FieldsBackLemmas.{bytes-within, message-back}
use Rattle.osm_pbf.proofs.GroupsBackLemmas.{map-twice}
use Rattle.osm_pbf.proofs.NodesBackLemmas.{dense-back, dense_read, full-from, node-body}
use Rattle.osm_pbf.proofs.PlainBackLemmas.{IsCodable, entry_coded, info_coded, tag_coded}
use Rattle.osm_pbf.proofs.SizeLemmas.{message-next}

-- a list of numbers from 0 on, mapped as the elements of a list are
range-map : {A B : Type 0} (f : ℕ → B) (g : A → B) (xs : List A) →
    ((i : ℕ) (d : A) → i < length xs → f i ≡ g (get_or xs i d)) → map f (range_with_len 0 (length xs)) ≡ map g xs
range-map f g [] same = refl
range-map f g (x ∷ xs) same =
    let list = x ∷ xs in
    same_lists (map f (range_with_len 0 (length list))) (map g list)
    (length-map-range_with_len f 0 (length list) ∙ sym (length-map list g))
    (λ k d within.
    let below : k < length list = omega (arith, within, length-map-range_with_len f 0 (length list)) in
    get_or-map-range_with_len f 0 (length list) k k d below (omega arith) ∙ same k x below
    ∙ sym (get_or-map g list k x d below))

-- all tests of the lengths of metadata are passed
info-full : (count : ℕ) (info : DenseInfo) → is_full count info.versions ≡ true → is_full count info.timestamps ≡ true →
    is_full count info.changesets ≡ true → is_full count info.uids ≡ true → is_full count info.users ≡ true →
    is_full count info.visibles ≡ true → is_info_full count info ≡ true
info-full count info v t c u k s = rw (v, t, c, u, k, s) refl

module _ (options : PbfOptions) (table : List (List ℕ)) (run : List EntityValue)
    (can : Each (IsCodable options table) run) (keyed : Each (λ e. Each (IsKeyed table) e.tags) run)
    (alike : Each (λ e. kind_of e.body ≡ OfNode) run) where
  abbrev nodes : List Numbered
  nodes = map (with_numbers options table) run

  -- a column has as many numbers as there are entities
  column-length : {T : Type 0} (f : Numbered → T) → length (map f nodes) ≡ length run
  column-length f = length-map nodes f ∙ length-map run (with_numbers options table)

  -- the number of a column at a place is that of the entity there
  column-at : {T : Type 0} (f : Numbered → T) (i : ℕ) (e : EntityValue) (d : T) → i < length run →
      get_or (map f nodes) i d ≡ f (with_numbers options table (get_or run i e))
  column-at f i e d within =
      ap (λ list. get_or list i d) (map-twice f (with_numbers options table) run)
      ∙ get_or-map (λ x. f (with_numbers options table x)) run i e d within

  -- the lengths of the columns of metadata fit
  columns-full : (omitted : Bool) →
      is_info_full (length run) (if omitted then no_dense_info else info_columns nodes) ≡ true
  columns-full true = refl
  columns-full false =
      let count = length run in
      info-full count (info_columns nodes)
      (full-from count (info_columns nodes).versions
      (length-map (map (λ n. n.entity.version) nodes) pos ∙ column-length (λ n. n.entity.version)))
      (full-from count (info_columns nodes).timestamps (column-length (λ n. pos n.entity.time)))
      (full-from count (info_columns nodes).changesets (column-length (λ n. pos n.entity.changeset)))
      (full-from count (info_columns nodes).uids (column-length (λ n. pos n.entity.uid)))
      (full-from count (info_columns nodes).users (column-length (λ n. pos n.user))) refl

  -- the lengths of all columns fit
  lengths-fit : are_lengths_fit (dense_read options table run can) ≡ true
  lengths-fit =
      let d = dense_read options table run can in
      let ids = column-length (λ n. n.entity.id) in
      let lats = column-length (λ n. lat_in options (place_in n.entity.body)) in
      let lons = column-length (λ n. lon_in options (place_in n.entity.body)) in
      rw (
        eq-eqb (length d.lats) (length d.ids) (lats ∙ sym ids),
        eq-eqb (length d.lons) (length d.ids) (lons ∙ sym ids),
        ids,
      ) (columns-full options.omitmetadata)

  -- the metadata of a node
  info-at : (omitted : Bool) (i : ℕ) (e : EntityValue) → i < length run →
      dense_info_at (if omitted then no_dense_info else info_columns nodes) i
      ≡ info_coded omitted (get_or run i e) (user_number options table (get_or run i e).user)
  info-at true i e within =
      rw (
        get_or_past {X = ℤ} [] i (negsuc 0) (omega arith),
        get_or_past {X = ℤ} [] i (pos 0) (omega arith),
        get_or_past {X = Bool} [] i true (omega arith),
      ) refl
  info-at false i e within =
      let version : get_or (info_columns nodes).versions i (negsuc 0) ≡ pos (get_or run i e).version =
      ap (λ list. get_or list i (negsuc 0)) (map-twice pos (λ n. n.entity.version) nodes)
      ∙ column-at (λ n. pos n.entity.version) i e (negsuc 0) within in
      rw (
        version,
        column-at (λ n. pos n.entity.time) i e (pos 0) within,
        column-at (λ n. pos n.entity.changeset) i e (pos 0) within,
        column-at (λ n. pos n.entity.uid) i e (pos 0) within,
        column-at (λ n. pos n.user) i e (pos 0) within,
        get_or_past {X = Bool} [] i true (omega arith),
      ) refl

  -- the tags of all nodes
  abbrev each_tags : List (List EntryTag)
  each_tags = map (λ e. map (tag_coded table) e.tags) run

  -- a node is the entry of its entity
  entry-at : (i : ℕ) (e : EntityValue) → i < length run →
      dense_entry_at (dense_read options table run can) each_tags i ≡ entry_coded options table (get_or run i e)
  entry-at i e within =
      rw (
        column-at (λ n. n.entity.id) i e (pos 0) within,
        info-at options.omitmetadata i e within,
        get_or-map (λ x. map (tag_coded table) x.tags) run i e [] within,
        column-at (λ n. lat_in options (place_in n.entity.body)) i e (pos 0) within,
        column-at (λ n. lon_in options (place_in n.entity.body)) i e (pos 0) within,
        node-body options table (get_or run i e).body
            (All-get_or (λ x. kind_of x.body ≡ OfNode) run i e within
            (All-from_recursion (λ x. kind_of x.body ≡ OfNode) run alike)),
      ) refl

  -- the entries of the nodes
  entries-back : dense_entries (dense_read options table run can) ≡ Some (map (entry_coded options table) run)
  entries-back =
      let d = dense_read options table run can in
      let count = column-length (λ n. n.entity.id) in
      rw (lengths-fit, count, tags-all options table run keyed)
      (ap Some (range-map (dense_entry_at d each_tags) (entry_coded options table) run entry-at))

  -- the group of dense nodes says their entries
  pub dense-group :
      length (written_message (bytes_field 2 (written_message (dense_fields options nodes)) ∷ [])) < 2 ^ 64 →
      (g : Group)
      × (group (written_message (bytes_field 2 (written_message (dense_fields options nodes)) ∷ [])) ≡ Some g)
      × (group_entries g ≡ Some (map (entry_coded options table) run))
  dense-group few =
      let content : List ℕ = written_message (dense_fields options nodes) in
      let fields : List FieldValue = bytes_field 2 content ∷ [] in
      let short : length content < 2 ^ 64 =
      omega (arith, few, message-next (bytes_field 2 content) [], bytes-within 2 content) in
      let d = dense_read options table run can in
      let entries = map (entry_coded options table) run in (
        record { nodes = []; dense = Some d; ways = []; relations = [] },
        rw (message-back fields (((lit< tt, lit< tt), tt), tt) few, dense-back options table run can short) refl,
        ap (option_map (λ list. [] ++ list ++ [] ++ [])) entries-back
            ∙ ap Some (append-nil (entries ++ []) ∙ append-nil entries),
      )
