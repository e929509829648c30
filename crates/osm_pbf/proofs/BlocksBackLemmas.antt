-- The block of a run is read back as the items of the run that come back.
use Rattle.std.proofs.Common.{◌≡◌, ◌∙◌, ◌<◌, ◌≤◌, ◌^◌, ◌++◌, ◌∷◌, [], ℕ, List, Option, Some, None, Bool, true, false, length, map, refl, ap, subst, lit<, arith, append-nil}
use Rattle.std.specs.Prelude.{FitsSigned, IsTrue, Ok, ◌≢◌, ◌==◌, if◌then◌else◌}
use Rattle.std.specs.Int.{w64}
use Rattle.std.specs.List.{AllByRecursion as Each, flat_map, list_all}
use Rattle.std.specs.Str.{IsUtf8, is_utf8}
use Rattle.std.proofs.lemmas.Bool.{cond_both, eqb-true, false≢true}
use Rattle.std.proofs.lemmas.List.Elements.{recursion_from_All}
use Rattle.osm_entity.specs.Entities.{EntityValue, body_fits}
use Rattle.osm_entity.specs.Items.{kind_of}
use Rattle.osm_entity.specs.Writable.{IsBodyText, IsMemberText, IsTagText}
use Rattle.osm_entity.specs.declared.kind.Kind.{Kind}
use Rattle.osm_entity.specs.declared.kind.Kind.TheVariants.{Node as OfNode, Way as OfWay, Relation as OfRelation}
use Rattle.osm_entity.specs.declared.parts.Body.{Body}
use Rattle.osm_entity.specs.declared.parts.Body.TheVariants.{Node, Way, Relation}
use Rattle.osm_entity.specs.declared.parts.Member.{Member}
use Rattle.osm_entity.specs.declared.parts.Place.{Place}
use Rattle.osm_wire.specs.Messages.{FieldValue}
use Rattle.osm_wire.specs.Written.{written_message}
use Rattle.osm_block_read.specs.Block.{Group, block, block_said, group, group_entries}
use Rattle.osm_block_read.specs.Strings.{table_texts}
use Rattle.osm_block_write.specs.declared.options.PbfOptions.{PbfOptions}
use Rattle.osm_block_write.specs.Block.{block_bytes, granularity_field, group_fields, is_dense}
use Rattle.osm_block_write.specs.Columns.{bytes_field, number_field}
use Rattle.osm_block_write.specs.Messages.{entity_field, lat_in, lon_in}
use Rattle.osm_block_write.specs.Numbered.{user_number, with_numbers}
use Rattle.osm_block_write.specs.Runs.{greatest_run, total_weight}
use Rattle.osm_block_write.specs.Tables.{role_texts, string_table, table_of, tag_texts, text_number, texts_of, user_texts}
use Rattle.osm_pbf.specs.ReadBack.{item_back}
use Rattle.osm_pbf.proofs.BlockSizeLemmas.{block-short}
use Rattle.osm_pbf.proofs.DenseBackLemmas.{IsKeyed, pos-fits64}
use Rattle.osm_pbf.proofs.DenseEntriesLemmas.{dense-group}
use Rattle.osm_pbf.proofs.FieldsBackLemmas.{AreSound, bytes-within, each-append, each-weaker, message-back}
use Rattle.osm_pbf.proofs.GroupsBackLemmas.{map-twice, plain-group}
use Rattle.osm_pbf.proofs.ItemsBackLemmas.{IsWritableEntity, place-bounds, run-items, setting_of, units-fit}
use Rattle.osm_pbf.proofs.NumbersBackLemmas.{int32-back}
use Rattle.osm_pbf.proofs.PlainBackLemmas.{IsBodyCodable, IsCodable, IsMemberCodable, IsTagCodable, entry_coded}
use Rattle.osm_pbf.proofs.SizeLemmas.{message-next}
use Rattle.osm_pbf.proofs.TextsBackLemmas.{AreNamed, IsNamed, each-joined, named-below, named-some, run-named, table-back, table-few, table-utf8}

-- both of two facts of each element
each-both : {T : Type 0} (P Q : T → Type 0) (items : List T) → Each P items → Each Q items →
    Each (λ x. P x × Q x) items
each-both P Q [] one two = tt
each-both P Q (x ∷ items) one two = ((one.0, two.0), each-both P Q items one.1 two.1)

-- the place of a body fits, in units of the granularity
place-codable : (options : PbfOptions) (place : Option Place) → IsTrue (body_fits (Node place)) →
    FitsSigned w64 (lat_in options place) × FitsSigned w64 (lon_in options place)
place-codable options None fits = (pos-fits64 0 (lit< tt), pos-fits64 0 (lit< tt))
place-codable options (Some p) fits =
    let bounds = place-bounds p fits in (
      units-fit options p.lat (omega (arith, bounds.1)),
      units-fit options p.lon (omega (arith, bounds.0)),
    )

module _ (options : PbfOptions) (texts : List (List ℕ)) (few : length (string_table texts) < 2 ^ 31) where
  abbrev table : List (List ℕ)
  table = string_table texts

  -- the number of a text that is there is small
  named-small : (text : List ℕ) → IsNamed table text → text_number table text < 2 ^ 31
  named-small text is = omega (arith, few, named-below table text is)

  -- the numbers of members fit
  members-codable : (members : List Member) → Each IsMemberText members →
      Each (IsNamed table) (map (λ m. m.role) members) → Each (IsMemberCodable table) members
  members-codable [] kept are = tt
  members-codable (m ∷ members) kept are =
      ((kept.0.id, named-small m.role are.0), members-codable members kept.1 are.1)

  -- the numbers of a body fit
  body-codable : (body : Body) → IsTrue (body_fits body) → IsBodyText body → Each (IsNamed table) (role_texts body) →
      IsBodyCodable options table body
  body-codable (Node place) fits kept are = place-codable options place fits
  body-codable (Way refs) fits kept are = recursion_from_All (λ id. FitsSigned w64 id) refs kept
  body-codable (Relation members) fits kept are =
      members-codable members (recursion_from_All IsMemberText members kept) are

  -- the number of a user is small
  user-small : (user : List ℕ) → Each (IsNamed table) (if options.omitmetadata then [] else user ∷ []) →
      user_number options table user < 2 ^ 31
  user-small user are =
      cond_both options.omitmetadata 0 (text_number table user) (λ n. n < 2 ^ 31) (λ _. lit< tt)
      (λ written. named-small user
      (subst (λ (b : Bool). Each (IsNamed table) (if b then [] else user ∷ [])) written are).0)

  -- the numbers of an entity fit their fields
  entity-codable : (e : EntityValue) → IsWritableEntity e → AreNamed options table e → IsCodable options table e
  entity-codable e kept are = record {
    id = kept.id;
    version = kept.entity.version;
    time = kept.time;
    changeset = kept.entity.changeset;
    uid = kept.entity.uid;
    user = user-small e.user are.user;
    tags =
        each-weaker (λ tag. IsNamed table tag.key × IsNamed table tag.value) (IsTagCodable table) e.tags
        (λ tag both. (named-small tag.key both.0, named-small tag.value both.1)) are.tags;
    body = body-codable e.body kept.entity.in_range kept.body are.roles;
  }

  -- no key of it is numbered as the empty text
  entity-keyed : (e : EntityValue) → IsWritableEntity e → AreNamed options table e → Each (IsKeyed table) e.tags
  entity-keyed e kept are =
      each-weaker (λ tag. (tag.key ≢ []) × (IsNamed table tag.key × IsNamed table tag.value)) (IsKeyed table) e.tags
      (λ tag both. named-some texts tag.key both.1.0 both.0)
      (each-both (λ tag. tag.key ≢ []) (λ tag. IsNamed table tag.key × IsNamed table tag.value) e.tags
      (recursion_from_All (λ t. t.key ≢ []) e.tags kept.entity.named) are.tags)

  -- the group of a run says its entries
  group-back : (kind : Kind) (run : List EntityValue) → Each (λ e. kind_of e.body ≡ kind) run →
      Each (IsCodable options table) run → Each (λ e. Each (IsKeyed table) e.tags) run → (dense : Bool) →
      (dense ≡ true → kind ≡ OfNode) →
      length (written_message (group_fields dense options (map (with_numbers options table) run))) < 2 ^ 64 →
      (g : Group)
      × (group (written_message (group_fields dense options (map (with_numbers options table) run))) ≡ Some g)
      × (group_entries g ≡ Some (map (entry_coded options table) run))
  group-back kind run alike can keyed true nodes short =
      dense-group options table run can keyed
      (subst (λ (k : Kind). Each (λ e. kind_of e.body ≡ k) run) (nodes refl) alike) short
  group-back kind run alike can keyed false nodes short =
      let same : map (entity_field options) (map (with_numbers options table) run)
      ≡ map (λ e. entity_field options (with_numbers options table e)) run =
      map-twice (entity_field options) (with_numbers options table) run in
      let found = plain-group options table kind run alike can
      (subst (λ fields. length (written_message fields) < 2 ^ 64) same short) in
      (found.0, ap (λ fields. group (written_message fields)) same ∙ found.1, found.2)

-- only nodes are dense
dense-nodes : (options : PbfOptions) (kind : Kind) → is_dense options kind ≡ true → kind ≡ OfNode
dense-nodes options OfNode is = refl
dense-nodes options OfWay is = absurd (false≢true is)
dense-nodes options OfRelation is = absurd (false≢true is)

-- the fields of a block, by whether the granularity is 100
abbrev fields_by : ℕ → Bool → List ℕ → List ℕ → List FieldValue
fields_by granularity hundred texts content =
    bytes_field 1 texts ∷ bytes_field 2 content ∷ (if hundred then [] else number_field 17 granularity ∷ [])

-- they are good to write
fields-sound : (granularity : ℕ) (hundred : Bool) (texts content : List ℕ) → granularity < 2 ^ 31 →
    AreSound (fields_by granularity hundred texts content)
fields-sound granularity true texts content small = (((lit< tt, lit< tt), tt), (((lit< tt, lit< tt), tt), tt))
fields-sound granularity false texts content small =
    (((lit< tt, lit< tt), tt), (((lit< tt, lit< tt), tt), (((lit< tt, lit< tt), omega (arith, small)), tt)))

-- a block of a table and of a group
block-back : (options : PbfOptions) (hundred : Bool) → (options.granularity == 100) ≡ hundred →
    (texts content : List ℕ) (table : List (List ℕ)) (g : Group) → table_texts texts ≡ Some table →
    group content ≡ Some g →
    length (written_message (fields_by options.granularity hundred texts content)) < 2 ^ 64 →
    block (written_message (fields_by options.granularity hundred texts content))
    ≡ Some (record { setting = setting_of options table; groups = g ∷ [] })
block-back options true is texts content table g read found few =
    let hundred : options.granularity ≡ 100 = eqb-true options.granularity 100 is in
    let fields = fields_by options.granularity true texts content in
    rw (
      message-back fields (fields-sound options.granularity true texts content (omega (arith, options.coarse))) few,
      read,
      found,
      hundred,
    ) refl
block-back options false is texts content table g read found few =
    let fields = fields_by options.granularity false texts content in
    rw (
      message-back fields (fields-sound options.granularity false texts content (omega (arith, options.coarse))) few,
      read,
      found,
      int32-back options.granularity (omega (arith, options.coarse)),
    ) refl

-- the roles of a body are UTF-8
members-utf8 : (members : List Member) → Each IsMemberText members → Each IsUtf8 (map (λ m. m.role) members)
members-utf8 [] kept = tt
members-utf8 (m ∷ members) kept = (kept.0.role, members-utf8 members kept.1)

-- the roles of a body are UTF-8
roles-utf8 : (body : Body) → IsBodyText body → Each IsUtf8 (role_texts body)
roles-utf8 (Node place) kept = tt
roles-utf8 (Way refs) kept = tt
roles-utf8 (Relation members) kept = members-utf8 members (recursion_from_All IsMemberText members kept)

-- the texts of an entity are UTF-8
entity-utf8 : (options : PbfOptions) (e : EntityValue) → IsWritableEntity e →
    Each IsUtf8 (texts_of options e)
entity-utf8 options e kept =
    each-append IsUtf8 (user_texts options e ++ flat_map tag_texts e.tags) (role_texts e.body)
    (each-append IsUtf8 (user_texts options e) (flat_map tag_texts e.tags)
    (cond_both options.omitmetadata [] (e.user ∷ []) (Each IsUtf8) (λ _. tt) (λ _. (kept.user, tt)))
    (each-joined IsUtf8 tag_texts e.tags
    (each-weaker IsTagText (λ tag. Each IsUtf8 (tag_texts tag)) e.tags (λ tag is. (is.key, (is.value, tt)))
    (recursion_from_All IsTagText e.tags kept.tags)))) (roles-utf8 e.body kept.body)

module _ (options : PbfOptions) (kind : Kind) (run : List EntityValue)
    (kept : Each IsWritableEntity run) (alike : Each (λ e. kind_of e.body ≡ kind) run)
    (light : total_weight run ≤ greatest_run) where
  abbrev all_texts : List (List ℕ)
  all_texts = flat_map (texts_of options) run

  -- the table of the run
  abbrev own_table : List (List ℕ)
  own_table = table_of options run

  -- its bytes
  abbrev table_bytes : List ℕ
  table_bytes = written_message (map (bytes_field 1) own_table)

  -- the bytes of the group of the run
  abbrev group_bytes : List ℕ
  group_bytes =
      written_message (group_fields (is_dense options kind) options (map (with_numbers options own_table) run))

  -- the parts of the block are short, since the block is
  parts-short : (length table_bytes < 2 ^ 31) × (length group_bytes < 2 ^ 64)
  parts-short =
      let short = block-short options kind run light in
      let first = message-next (bytes_field 1 table_bytes)
      (bytes_field 2 group_bytes ∷ granularity_field options.granularity) in
      let second = message-next (bytes_field 2 group_bytes) (granularity_field options.granularity) in (
        omega (arith, short, first, bytes-within 1 table_bytes),
        omega (arith, short, first, second, bytes-within 2 group_bytes),
      )

  -- the block says the items that come back
  pub block_bytes-back : block_said (block_bytes options kind run) ≡ Ok (map (item_back options) run)
  unfolding block_said
  block_bytes-back =
      let short = parts-short in
      let few : length own_table < 2 ^ 31 = omega (arith, short.0, table-few own_table) in
      let named = run-named options run in
      let both = each-both IsWritableEntity (AreNamed options own_table) run kept named in
      let can = each-weaker (λ e. IsWritableEntity e × AreNamed options own_table e)
      (IsCodable options own_table) run (λ e two. entity-codable options all_texts few e two.0 two.1) both in
      let keyed = each-weaker (λ e. IsWritableEntity e × AreNamed options own_table e)
      (λ e. Each (IsKeyed own_table) e.tags) run (λ e two. entity-keyed options all_texts few e two.0 two.1) both in
      let found = group-back options all_texts few kind run alike can keyed (is_dense options kind)
      (dense-nodes options kind) short.1 in
      let read = table-back own_table (omega (arith, short.0)) in
      let utf8 : list_all is_utf8 own_table ≡ true =
      table-utf8 all_texts
      (each-joined IsUtf8 (texts_of options) run
      (each-weaker IsWritableEntity (λ e. Each IsUtf8 (texts_of options e)) run
      (entity-utf8 options) kept)) in
      let whole = block-short options kind run light in
      let entries = map (entry_coded options own_table) run in
      rw (
        block-back options (options.granularity == 100) refl table_bytes group_bytes own_table found.0 read found.1
            (omega (arith, whole)),
        utf8,
        found.2,
        append-nil entries,
      ) (run-items options all_texts run kept named)
