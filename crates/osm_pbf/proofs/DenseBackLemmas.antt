-- Dense nodes are read back as entries.
use Rattle.std.proofs.Common.{◌≡◌, ◌∙◌, ◌<◌, ◌≤◌, ◌^◌, ◌++◌, ◌∷◌, [], ℕ, ℤ, pos, List, Some, true, false, length, map, refl, sym, ap, lit<, arith, replicate, inl, inr}
use Rattle.std.specs.Prelude.{FitsSigned, ◌≢◌, nat_lt, if◌then◌else◌}
use Rattle.std.specs.Int.{w32, w64}
use Rattle.std.specs.List.{AllByRecursion as Each, flat_map, list_any}
use Rattle.std.specs.Option.{option_map}
use Rattle.std.proofs.lemmas.Bool.{cases_Bool, cond_both, eq-eqb, false≢true, ltb-false, ne_eqb, or_parts}
use Rattle.std.proofs.lemmas.Int.{fits_signed_from_abs}
use Rattle.std.proofs.lemmas.List.{length-append, length-map, map-append}
use Rattle.osm_entity.specs.Entities.{EntityValue}
use Rattle.osm_entity.specs.declared.parts.Tag.{Tag}
use Rattle.osm_wire.specs.Integers.{int32, zigzagged}
use Rattle.osm_wire.specs.Messages.{FieldValue}
use Rattle.osm_wire.specs.Written.{written_message}
use Rattle.osm_block_read.specs.declared.entry.EntryTag.{EntryTag}
use Rattle.osm_block_read.specs.Dense.{DenseInfo, dense_info, tags_of_all, tags_of_each}
use Rattle.osm_block_read.proofs.TagLemmas.{tags_of_each-end}
use Rattle.osm_block_write.specs.declared.options.PbfOptions.{PbfOptions}
use Rattle.osm_block_write.specs.Columns.{deltas, packed_field}
use Rattle.osm_block_write.specs.Messages.{dense_info_fields, has_tags, keys_vals, keys_vals_field}
use Rattle.osm_block_write.specs.Numbered.{Numbered, numbered_tag, with_numbers}
use Rattle.osm_block_write.specs.Tables.{text_number}
use Rattle.osm_pbf.proofs.ColumnsBackLemmas.{AreRising, fifth-of, first-of, fourth-of, none-of, packed-only, second-of, third-of}
use Rattle.osm_pbf.proofs.FieldsBackLemmas.{AreSound, IsSound, each-append, each-map, each-weaker, message-back, packed-sound, packed_payload, repeated-back}
use Rattle.osm_pbf.proofs.NumbersBackLemmas.{column32-back, column32-codes, column64-back, column64-codes, int32-back}
use Rattle.osm_pbf.proofs.PlainBackLemmas.{tag_coded}

-- a tag whose key isn't the empty text
abbrev pub IsKeyed : List (List ℕ) → Tag → Type 0
IsKeyed table tag = text_number table tag.key ≢ 0

-- the tags of a node, before those of others
each-tags : (table : List (List ℕ)) (tags : List Tag) (rest : List ℤ) (each : List (List EntryTag)) →
    Each (IsKeyed table) tags → tags_of_each rest ≡ Some each →
    tags_of_each (map pos (keys_vals (map (numbered_tag table) tags)) ++ rest)
    ≡ Some (map (tag_coded table) tags ∷ each)
each-tags table [] rest each keyed is = tags_of_each-end (pos 0) rest refl ∙ ap (option_map (λ more. [] ∷ more)) is
each-tags table (tag ∷ tags) rest each keyed is =
    let key : ℕ = text_number table tag.key in
    let value : ℕ = text_number table tag.value in
    rw (ne_eqb key 0 keyed.0, each-tags table tags rest each keyed.1 is) refl

-- the tags of all nodes of a run
run-tags : (options : PbfOptions) (table : List (List ℕ)) (run : List EntityValue) →
    Each (λ e. Each (IsKeyed table) e.tags) run →
    tags_of_each (map pos (flat_map (λ n. keys_vals n.tags) (map (with_numbers options table) run)))
    ≡ Some (map (λ e. map (tag_coded table) e.tags) run)
run-tags options table [] keyed = refl
run-tags options table (e ∷ run) keyed =
    let here = keys_vals (map (numbered_tag table) e.tags) in
    let later = flat_map (λ n. keys_vals n.tags) (map (with_numbers options table) run) in
    ap tags_of_each (map-append pos here later)
    ∙ each-tags table e.tags (map pos later) (map (λ e. map (tag_coded table) e.tags) run) keyed.0
    (run-tags options table run keyed.1)

-- tags that are none
untagged : (tags : List Tag) → nat_lt 0 (length tags) ≡ false → tags ≡ []
untagged [] none = refl
untagged (tag ∷ tags) none = absurd (omega (arith, ltb-false 0 (length (tag ∷ tags)) none))

-- where a node has tags there is a node
some-tagged : (nodes : List Numbered) → list_any (λ n. has_tags n.entity) nodes ≡ true → 0 < length nodes
some-tagged [] some = absurd (false≢true some)
some-tagged (n ∷ nodes) some = omega arith

-- where no node has tags, the tags of each are none
no-tags : (options : PbfOptions) (table : List (List ℕ)) (run : List EntityValue) →
    list_any (λ n. has_tags n.entity) (map (with_numbers options table) run) ≡ false →
    replicate (length run) [] ≡ map (λ e. map (tag_coded table) e.tags) run
no-tags options table [] none = refl
no-tags options table (e ∷ run) none =
    let parts = or_parts (has_tags e) (list_any (λ n. has_tags n.entity) (map (with_numbers options table) run)) none in
    ap (λ tags. map (tag_coded table) tags ∷ replicate (length run) []) (sym (untagged e.tags parts.0))
    ∙ ap (λ more. map (tag_coded table) e.tags ∷ more) (no-tags options table run parts.1)

-- a list that isn't empty, as the tags of a number of nodes
tags-counted : (count : ℕ) (indexes : List ℤ) (each : List (List EntryTag)) → 0 < length indexes →
    tags_of_each indexes ≡ Some each → length each ≡ count → tags_of_all count indexes ≡ Some each
tags-counted count [] each some is long = absurd (omega (arith, some))
tags-counted count (index ∷ indexes) each some is long = rw (is, eq-eqb (length each) count long) refl

-- the indexes of all tags of dense nodes; none where no node has any
abbrev pub indexes_of : List Numbered → List ℕ
indexes_of nodes = if list_any (λ n. has_tags n.entity) nodes then flat_map (λ n. keys_vals n.tags) nodes else []

-- they are the numbers of their field
pub indexes-field : (nodes : List Numbered) → keys_vals_field nodes ≡ packed_field 10 (indexes_of nodes)
indexes-field nodes = elim (cases_Bool (list_any (λ n. has_tags n.entity) nodes)) [
  | inl some ↦ rw some refl
  | inr none ↦ rw none refl
]

-- each node has an index
indexes-some : (nodes : List Numbered) → length nodes ≤ length (flat_map (λ n. keys_vals n.tags) nodes)
indexes-some [] = omega arith
indexes-some (n ∷ nodes) = omega (
  arith,
  indexes-some nodes,
  length-append (keys_vals n.tags) (flat_map (λ n. keys_vals n.tags) nodes),
  length-append (flat_map (λ t. t.key ∷ t.value ∷ []) n.tags) (0 ∷ []),
)

-- the tags of the nodes of a run are read back
pub tags-all : (options : PbfOptions) (table : List (List ℕ)) (run : List EntityValue) →
    Each (λ e. Each (IsKeyed table) e.tags) run →
    tags_of_all (length run) (map pos (indexes_of (map (with_numbers options table) run)))
    ≡ Some (map (λ e. map (tag_coded table) e.tags) run)
tags-all options table run keyed =
    let nodes = map (with_numbers options table) run in
    let all = flat_map (λ n. keys_vals n.tags) nodes in
    let each = map (λ e. map (tag_coded table) e.tags) run in
    cond_both (list_any (λ n. has_tags n.entity) nodes) all []
    (λ indexes. tags_of_all (length run) (map pos indexes) ≡ Some each)
    (λ some. tags-counted (length run) (map pos all) each
    (omega (
      arith,
      length-map all pos,
      indexes-some nodes,
      length-map run (with_numbers options table),
      some-tagged nodes some,
    ))
    (run-tags options table run keyed) (length-map run (λ e. map (tag_coded table) e.tags)))
    (λ none. ap Some (no-tags options table run none))

-- numbers below 2^31 are read back as signed numbers of 32 bits
pub int32s-back : (numbers : List ℕ) → Each (λ n. n < 2 ^ 31) numbers → map int32 numbers ≡ map pos numbers
int32s-back [] fit = refl
int32s-back (n ∷ numbers) fit =
    ap (λ x. x ∷ map int32 numbers) (int32-back n fit.0) ∙ ap (λ more. pos n ∷ more) (int32s-back numbers fit.1)

-- numbers below 2^31 have 64 bits
pub small-fit : (numbers : List ℕ) → Each (λ n. n < 2 ^ 31) numbers → Each (λ n. n < 2 ^ 64) numbers
small-fit numbers fit = each-weaker (λ n. n < 2 ^ 31) (λ n. n < 2 ^ 64) numbers (λ n small. omega (arith, small)) fit

-- five columns are good to write
pub five-sound : (a b c d e : List FieldValue) → AreSound a → AreSound b → AreSound c → AreSound d → AreSound e →
    AreSound (a ++ b ++ c ++ d ++ e)
five-sound a b c d e one two three four five =
    each-append IsSound (((a ++ b) ++ c) ++ d) e
    (each-append IsSound ((a ++ b) ++ c) d
    (each-append IsSound (a ++ b) c (each-append IsSound a b one two) three) four) five

-- the metadata of dense nodes, as it is read
abbrev pub info_columns : List Numbered → DenseInfo
info_columns nodes = record {
  versions = map pos (map (λ n. n.entity.version) nodes);
  timestamps = map (λ n. pos n.entity.time) nodes;
  changesets = map (λ n. pos n.entity.changeset) nodes;
  uids = map (λ n. pos n.entity.uid) nodes;
  users = map (λ n. pos n.user) nodes;
  visibles = [];
}

-- a small number fits 64 bits
pub pos-fits64 : (n : ℕ) → n < 2 ^ 63 → FitsSigned w64 (pos n)
pos-fits64 n small = fits_signed_from_abs w64 (pos n) small

-- and fits 32 bits
pos-fits32 : (n : ℕ) → n < 2 ^ 31 → FitsSigned w32 (pos n)
pos-fits32 n small = fits_signed_from_abs w32 (pos n) small

-- the numbers of a dense node fit their columns
pub record IsNodeCodable (n : Numbered) : Type 0 where
  pub version : n.entity.version < 2 ^ 31
  pub time : n.entity.time < 2 ^ 32
  pub changeset : n.entity.changeset < 2 ^ 63
  pub uid : n.entity.uid < 2 ^ 31
  pub user : n.user < 2 ^ 31

module _ (nodes : List Numbered) (can : Each IsNodeCodable nodes) where
  -- the versions
  abbrev versions : List ℕ
  versions = map (λ n. n.entity.version) nodes

  -- the codes of the times
  abbrev times : List ℕ
  times = map zigzagged (deltas w64 (map (λ n. pos n.entity.time) nodes))

  -- the codes of the changesets
  abbrev changesets : List ℕ
  changesets = map zigzagged (deltas w64 (map (λ n. pos n.entity.changeset) nodes))

  -- the codes of the uids
  abbrev uids : List ℕ
  uids = map zigzagged (deltas w32 (map (λ n. pos n.entity.uid) nodes))

  -- the codes of the users
  abbrev users : List ℕ
  users = map zigzagged (deltas w32 (map (λ n. pos n.user) nodes))

  -- versions are small
  versions-fit : Each (λ n. n < 2 ^ 31) versions
  versions-fit =
      each-map (λ n. n < 2 ^ 31) (λ n. n.entity.version) nodes
      (each-weaker IsNodeCodable (λ n. n.entity.version < 2 ^ 31) nodes (λ n c. c.version) can)

  -- times fit 64 bits
  times-fit : Each (FitsSigned w64) (map (λ n. pos n.entity.time) nodes)
  times-fit =
      each-map (FitsSigned w64) (λ n. pos n.entity.time) nodes
      (each-weaker IsNodeCodable (λ n. FitsSigned w64 (pos n.entity.time)) nodes
      (λ n c. pos-fits64 n.entity.time (omega (arith, c.time))) can)

  -- changesets fit 64 bits
  changesets-fit : Each (FitsSigned w64) (map (λ n. pos n.entity.changeset) nodes)
  changesets-fit =
      each-map (FitsSigned w64) (λ n. pos n.entity.changeset) nodes
      (each-weaker IsNodeCodable (λ n. FitsSigned w64 (pos n.entity.changeset)) nodes
      (λ n c. pos-fits64 n.entity.changeset c.changeset) can)

  -- uids fit 32 bits
  uids-fit : Each (FitsSigned w32) (map (λ n. pos n.entity.uid) nodes)
  uids-fit =
      each-map (FitsSigned w32) (λ n. pos n.entity.uid) nodes
      (each-weaker IsNodeCodable (λ n. FitsSigned w32 (pos n.entity.uid)) nodes
      (λ n c. pos-fits32 n.entity.uid c.uid) can)

  -- the numbers of users fit 32 bits
  users-fit : Each (FitsSigned w32) (map (λ n. pos n.user) nodes)
  users-fit =
      each-map (FitsSigned w32) (λ n. pos n.user) nodes
      (each-weaker IsNodeCodable (λ n. FitsSigned w32 (pos n.user)) nodes (λ n c. pos-fits32 n.user c.user) can)

  -- the numbers of the fields rise
  info-rising : AreRising 1 2 3 4 5
  info-rising = record { ab = lit< tt; bc = lit< tt; cd = lit< tt; de = lit< tt }

  -- the metadata of dense nodes is read back
  pub dense_info-back : length (written_message (dense_info_fields nodes)) < 2 ^ 64 →
      dense_info (written_message (dense_info_fields nodes)) ≡ Some (info_columns nodes)
  dense_info-back few =
      let fields : List FieldValue = dense_info_fields nodes in
      let one = packed-only 1 versions in
      let two = packed-only 2 times in
      let three = packed-only 3 changesets in
      let four = packed-only 4 uids in
      let five = packed-only 5 users in
      let pv = packed_payload versions in
      let pt = packed_payload times in
      let pc = packed_payload changesets in
      let pi = packed_payload uids in
      let pu = packed_payload users in
      let fv = packed_field 1 versions in
      let ft = packed_field 2 times in
      let fc = packed_field 3 changesets in
      let fi = packed_field 4 uids in
      let fu = packed_field 5 users in
      rw (
        message-back fields
            (five-sound fv ft fc fi fu (packed-sound 1 versions (lit< tt, lit< tt))
            (packed-sound 2 times (lit< tt, lit< tt))
            (packed-sound 3 changesets (lit< tt, lit< tt)) (packed-sound 4 uids (lit< tt, lit< tt))
            (packed-sound 5 users (lit< tt, lit< tt))) few,
        repeated-back 1 fields versions
            (first-of 1 2 3 4 5 pv pt pc pi pu fv ft fc fi fu info-rising one two three four five)
            (small-fit versions versions-fit),
        repeated-back 2 fields times
            (second-of 1 2 3 4 5 pv pt pc pi pu fv ft fc fi fu info-rising one two three four five)
            (column64-codes (map (λ n. pos n.entity.time) nodes)),
        repeated-back 3 fields changesets
            (third-of 1 2 3 4 5 pv pt pc pi pu fv ft fc fi fu info-rising one two three four five)
            (column64-codes (map (λ n. pos n.entity.changeset) nodes)),
        repeated-back 4 fields uids
            (fourth-of 1 2 3 4 5 pv pt pc pi pu fv ft fc fi fu info-rising one two three four five)
            (column32-codes (map (λ n. pos n.entity.uid) nodes)),
        repeated-back 5 fields users
            (fifth-of 1 2 3 4 5 pv pt pc pi pu fv ft fc fi fu info-rising one two three four five)
            (column32-codes (map (λ n. pos n.user) nodes)),
        repeated-back 6 fields []
            (none-of 1 2 3 4 5 pv pt pc pi pu fv ft fc fi fu info-rising one two three four five 6
            (λ is. omega (arith, is)) (λ is. omega (arith, is)) (λ is. omega (arith, is)) (λ is. omega (arith, is))
            (λ is. omega (arith, is))) tt,
        int32s-back versions versions-fit,
        column64-back (map (λ n. pos n.entity.time) nodes) times-fit,
        column64-back (map (λ n. pos n.entity.changeset) nodes) changesets-fit,
        column32-back (map (λ n. pos n.entity.uid) nodes) uids-fit,
        column32-back (map (λ n. pos n.user) nodes) users-fit,
      ) refl
