-- The group of a run of dense nodes is read back.
use Rattle.std.proofs.Common.{◌≡◌, ◌∙◌, ◌<◌, ◌^◌, ◌++◌, ◌∷◌, [], ℕ, ℤ, pos, List, Some, Bool, true, false, length, map, refl, sym, ap, subst, lit<, arith}
use Rattle.std.specs.Prelude.{FitsSigned, ◌==◌, if◌then◌else◌}
use Rattle.std.specs.Int.{w64}
use Rattle.std.specs.List.{AllByRecursion as Each, flat_map, list_any}
use Rattle.std.proofs.lemmas.Bool.{cond_both, eq-eqb, or_right}
use Rattle.osm_entity.specs.Entities.{EntityValue}
use Rattle.osm_entity.specs.Items.{kind_of}
use Rattle.osm_entity.specs.declared.kind.Kind.TheVariants.{Node as OfNode, Way as OfWay, Relation as OfRelation}
use Rattle.osm_entity.specs.declared.parts.Body.{Body}
use Rattle.osm_entity.specs.declared.parts.Body.TheVariants.{Node, Way, Relation}
use Rattle.osm_entity.specs.declared.parts.Tag.{Tag}
use Rattle.osm_wire.specs.Entries.{payloads_of, singular}
use Rattle.osm_wire.specs.Integers.{zigzagged}
use Rattle.osm_wire.specs.Messages.{Bytes, FieldValue}
use Rattle.osm_wire.specs.Written.{written_message}
use Rattle.osm_block_read.specs.Dense.{Dense, dense, dense_info, is_full, no_dense_info}
use Rattle.osm_block_read.specs.Entries.{At}
use Rattle.osm_block_write.specs.declared.options.PbfOptions.{PbfOptions}
use Rattle.osm_block_write.specs.Columns.{bytes_field, deltas, packed_field}
use Rattle.osm_block_write.specs.Messages.{dense_fields, dense_info_fields, has_tags, info_field, keys_vals, keys_vals_field, lat_in, lon_in, place_in}
use Rattle.osm_block_write.specs.Numbered.{Numbered, numbered_tag, with_numbers}
use Rattle.osm_pbf.proofs.ColumnsBackLemmas.{AreRising, HasOnly, fifth-of, first-of, fourth-of, info-only, packed-only, second-of, third-of}
use Rattle.osm_pbf.proofs.DenseBackLemmas.{IsNodeCodable, dense_info-back, five-sound, indexes-field, indexes_of, info_columns, int32s-back, pos-fits64, small-fit}
use Rattle.osm_pbf.proofs.FieldsBackLemmas.{AreSound, bytes-within, each-map, each-weaker, message-back, packed-sound, packed_payload, repeated-back, singular-back, singular-none}
use Rattle.osm_pbf.proofs.NumbersBackLemmas.{column64-back, column64-codes}
use Rattle.osm_pbf.proofs.PlainBackLemmas.{IsBodyCodable, IsCodable, IsTagCodable, body_coded, info_payload}
use Rattle.osm_pbf.proofs.SizeLemmas.{message-append, message-next}
use Rattle.osm_pbf.proofs.TextsBackLemmas.{each-joined}

-- what is read of the metadata of dense nodes that may be left out
columns-said : (omitted : Bool) (nodes : List Numbered) (content : List ℕ) (fields : List FieldValue) →
    payloads_of 5 fields ≡ (if omitted then [] else Bytes content ∷ []) →
    (omitted ≡ false → dense_info content ≡ Some (info_columns nodes)) →
    singular no_dense_info dense_info 5 fields ≡ Some (if omitted then no_dense_info else info_columns nodes)
columns-said true nodes content fields is read = singular-none no_dense_info dense_info 5 fields is
columns-said false nodes content fields is read = singular-back no_dense_info dense_info 5 fields content is ∙ read refl

-- the place of a body fits, where the body does
place-fits : (options : PbfOptions) (table : List (List ℕ)) (body : Body) → IsBodyCodable options table body →
    FitsSigned w64 (lat_in options (place_in body)) × FitsSigned w64 (lon_in options (place_in body))
place-fits options table (Node place) can = can
place-fits options table (Way refs) can = (pos-fits64 0 (lit< tt), pos-fits64 0 (lit< tt))
place-fits options table (Relation members) can = (pos-fits64 0 (lit< tt), pos-fits64 0 (lit< tt))

-- the body of a node as its place
pub node-body : (options : PbfOptions) (table : List (List ℕ)) (body : Body) → kind_of body ≡ OfNode →
    At (lat_in options (place_in body)) (lon_in options (place_in body)) ≡ body_coded options table body
node-body options table (Node place) is = refl
node-body options table (Way refs) is = let no : OfWay ≡ OfNode = is in cc
node-body options table (Relation members) is = let no : OfRelation ≡ OfNode = is in cc

-- the keys and values of tags are small
tags-small : (table : List (List ℕ)) (tags : List Tag) → Each (IsTagCodable table) tags →
    Each (λ n. n < 2 ^ 31) (keys_vals (map (numbered_tag table) tags))
tags-small table [] can = (lit< tt, tt)
tags-small table (tag ∷ tags) can = (can.0.0, (can.0.1, tags-small table tags can.1))

-- a list that is full
pub full-from : {T : Type 0} (count : ℕ) (list : List T) → length list ≡ count → is_full count list ≡ true
full-from count list is = or_right (length list == 0) (length list == count) (eq-eqb (length list) count is)

module _ (options : PbfOptions) (table : List (List ℕ)) (run : List EntityValue)
    (can : Each (IsCodable options table) run) where
  -- the nodes of the run
  abbrev nodes : List Numbered
  nodes = map (with_numbers options table) run

  -- what holds of each entity of the run holds of each of its nodes
  each-node : (P : Numbered → Type 0) →
      ((e : EntityValue) → IsCodable options table e → P (with_numbers options table e)) →
      Each P nodes
  each-node P follows =
      each-map P (with_numbers options table) run
      (each-weaker (IsCodable options table) (λ e. P (with_numbers options table e)) run follows can)

  -- the numbers of nodes fit their columns
  nodes-can : Each IsNodeCodable nodes
  nodes-can =
      each-node IsNodeCodable
      (λ e c. record { version = c.version; time = c.time; changeset = c.changeset; uid = c.uid; user = c.user })

  -- the columns of ids and places
  abbrev ids : List ℤ
  ids = map (λ n. n.entity.id) nodes

  -- the column of latitudes
  abbrev lats : List ℤ
  lats = map (λ n. lat_in options (place_in n.entity.body)) nodes

  -- the column of longitudes
  abbrev lons : List ℤ
  lons = map (λ n. lon_in options (place_in n.entity.body)) nodes

  -- ids fit
  ids-fit : Each (FitsSigned w64) ids
  ids-fit =
      each-map (FitsSigned w64) (λ n. n.entity.id) nodes (each-node (λ n. FitsSigned w64 n.entity.id) (λ e c. c.id))

  -- latitudes fit
  lats-fit : Each (FitsSigned w64) lats
  lats-fit =
      each-map (FitsSigned w64) (λ n. lat_in options (place_in n.entity.body)) nodes
      (each-node (λ n. FitsSigned w64 (lat_in options (place_in n.entity.body)))
      (λ e c. (place-fits options table e.body c.body).0))

  -- longitudes fit
  lons-fit : Each (FitsSigned w64) lons
  lons-fit =
      each-map (FitsSigned w64) (λ n. lon_in options (place_in n.entity.body)) nodes
      (each-node (λ n. FitsSigned w64 (lon_in options (place_in n.entity.body)))
      (λ e c. (place-fits options table e.body c.body).1))

  -- the dense nodes, as they are read
  abbrev pub dense_read : Dense
  dense_read = record {
    ids = ids;
    info = if options.omitmetadata then no_dense_info else info_columns nodes;
    lats = lats;
    lons = lons;
    keys_vals = map pos (indexes_of nodes);
  }

  -- the indexes of all tags are small
  indexes-small : Each (λ n. n < 2 ^ 31) (indexes_of nodes)
  indexes-small =
      cond_both (list_any (λ n. has_tags n.entity) nodes) (flat_map (λ n. keys_vals n.tags) nodes) []
      (Each (λ n. n < 2 ^ 31))
      (λ _. each-joined (λ n. n < 2 ^ 31) (λ n. keys_vals n.tags) nodes
      (each-node (λ n. Each (λ k. k < 2 ^ 31) (keys_vals n.tags)) (λ e c. tags-small table e.tags c.tags)))
      (λ _. tt)

  -- the message of the nodes is read back
  pub dense-back : length (written_message (dense_fields options nodes)) < 2 ^ 64 →
      dense (written_message (dense_fields options nodes)) ≡ Some dense_read
  dense-back few =
      let info : List FieldValue = dense_info_fields nodes in
      let cs = map zigzagged (deltas w64 ids) in
      let ns = map zigzagged (deltas w64 lats) in
      let es = map zigzagged (deltas w64 lons) in
      let ts = indexes_of nodes in
      let p1 = packed_payload cs in
      let p2 = info_payload options.omitmetadata info in
      let p3 = packed_payload ns in
      let p4 = packed_payload es in
      let p5 = packed_payload ts in
      let f1 = packed_field 1 cs in
      let f2 = info_field options 5 info in
      let f3 = packed_field 8 ns in
      let f4 = packed_field 9 es in
      let f5 = keys_vals_field nodes in
      let h1 = packed-only 1 cs in
      let h2 = info-only options 5 info in
      let h3 = packed-only 8 ns in
      let h4 = packed-only 9 es in
      let h5 = subst (HasOnly 10 p5) (sym (indexes-field nodes)) (packed-only 10 ts) in
      let up : AreRising 1 5 8 9 10 = record { ab = lit< tt; bc = lit< tt; cd = lit< tt; de = lit< tt } in
      let fields : List FieldValue = dense_fields options nodes in
      let sound : AreSound fields =
      five-sound f1 f2 f3 f4 f5 (packed-sound 1 cs (lit< tt, lit< tt))
      (cond_both options.omitmetadata [] (bytes_field 5 (written_message info) ∷ []) AreSound (λ _. tt)
      (λ _. (((lit< tt, lit< tt), tt), tt))) (packed-sound 8 ns (lit< tt, lit< tt))
      (packed-sound 9 es (lit< tt, lit< tt))
      (subst AreSound (sym (indexes-field nodes)) (packed-sound 10 ts (lit< tt, lit< tt))) in
      let known : singular no_dense_info dense_info 5 fields
      ≡ Some (if options.omitmetadata then no_dense_info else info_columns nodes) =
      columns-said options.omitmetadata nodes (written_message info) fields
      (second-of 1 5 8 9 10 p1 p2 p3 p4 p5 f1 f2 f3 f4 f5 up h1 h2 h3 h4 h5)
      (λ written. dense_info-back nodes nodes-can
      (let held : f2 ≡ bytes_field 5 (written_message info) ∷ [] = rw written refl in omega (
        arith,
        few,
        message-append (((f1 ++ f2) ++ f3) ++ f4) f5,
        message-append ((f1 ++ f2) ++ f3) f4,
        message-append (f1 ++ f2) f3,
        message-append f1 f2,
        ap (λ list. length (written_message list)) held,
        message-next (bytes_field 5 (written_message info)) [],
        bytes-within 5 (written_message info),
      ))) in
      rw (
        message-back fields sound few,
        repeated-back 1 fields cs (first-of 1 5 8 9 10 p1 p2 p3 p4 p5 f1 f2 f3 f4 f5 up h1 h2 h3 h4 h5)
            (column64-codes ids),
        known,
        repeated-back 8 fields ns (third-of 1 5 8 9 10 p1 p2 p3 p4 p5 f1 f2 f3 f4 f5 up h1 h2 h3 h4 h5)
            (column64-codes lats),
        repeated-back 9 fields es (fourth-of 1 5 8 9 10 p1 p2 p3 p4 p5 f1 f2 f3 f4 f5 up h1 h2 h3 h4 h5)
            (column64-codes lons),
        repeated-back 10 fields ts (fifth-of 1 5 8 9 10 p1 p2 p3 p4 p5 f1 f2 f3 f4 f5 up h1 h2 h3 h4 h5)
            (small-fit ts indexes-small),
        column64-back ids ids-fit,
        column64-back lats lats-fit,
        column64-back lons lons-fit,
        int32s-back ts indexes-small,
      ) refl
