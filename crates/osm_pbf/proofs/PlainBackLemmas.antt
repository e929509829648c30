-- The messages of nodes, ways and relations are read back as entries, with numbers in the place of their texts.
use Rattle.std.proofs.Common.{◌≡◌, ◌∙◌, ◌<◌, ◌^◌, ◌++◌, ◌∷◌, [], ℕ, ℤ, pos, List, Option, Some, Bool, true, false, length, map, refl, sym, ap, subst, lit<, arith, append_assoc, inl, inr}
use Rattle.std.specs.Prelude.{FitsSigned, ◌&&◌, ◌==◌, if◌then◌else◌}
use Rattle.std.specs.Int.{w64, cast_unsigned}
use Rattle.std.specs.List.{AllByRecursion as Each}
use Rattle.std.proofs.lemmas.Bool.{and_from, cases_Bool, cond_both, eq-eqb, ne_eqb}
use Rattle.std.proofs.lemmas.List.{length-map}
use Rattle.osm_entity.specs.Entities.{EntityValue}
use Rattle.osm_entity.specs.Keys.{kind_rank}
use Rattle.osm_entity.specs.declared.kind.Kind.{Kind}
use Rattle.osm_entity.specs.declared.kind.Kind.TheVariants.{Node as OfNode, Way as OfWay, Relation as OfRelation}
use Rattle.osm_entity.specs.declared.parts.Body.{Body}
use Rattle.osm_entity.specs.declared.parts.Body.TheVariants.{Node, Way, Relation}
use Rattle.osm_entity.specs.declared.parts.Member.{Member}
use Rattle.osm_entity.specs.declared.parts.Place.{Place}
use Rattle.osm_entity.specs.declared.parts.Tag.{Tag}
use Rattle.osm_wire.specs.Entries.{payloads_of, singular}
use Rattle.osm_wire.specs.Integers.{int32, zigzagged}
use Rattle.osm_wire.specs.Messages.{Bytes, FieldValue, Payload, Varint}
use Rattle.osm_wire.specs.Written.{written_message}
use Rattle.osm_block_read.specs.declared.entry.EntryInfo.{EntryInfo}
use Rattle.osm_block_read.specs.declared.entry.EntryMember.{EntryMember}
use Rattle.osm_block_read.specs.declared.entry.EntryTag.{EntryTag}
use Rattle.osm_block_read.specs.Entries.{Along, At, Entry, EntryBody, Having}
use Rattle.osm_block_read.specs.Plain.{entry_members, entry_tags, entry_with, info, no_info, node_entry, relation_entry, way_entry}
use Rattle.osm_block_write.specs.declared.options.PbfOptions.{PbfOptions}
use Rattle.osm_block_write.specs.Columns.{bytes_field, deltas, number_field, packed_field}
use Rattle.osm_block_write.specs.Messages.{described, info_field, info_fields, lat_in, lon_in, node_fields, relation_fields, way_fields}
use Rattle.osm_block_write.specs.Numbered.{numbered_tag, user_number, with_numbers}
use Rattle.osm_block_write.specs.Tables.{role_texts, text_number}
use Rattle.osm_pbf.proofs.FieldsBackLemmas.{AreSound, IsSound, bytes-within, each-append, message-back, needed-back, packed-other, packed-own, packed-sound, packed_payload, payloads-before, payloads-behind, payloads-neither, repeated-back, singular-back, singular-none}
use Rattle.osm_pbf.proofs.NumbersBackLemmas.{codes-length, column64-back, column64-codes, id-back, id-fits, int32-back, int64-back, uint32-back, zigzag-back, zigzag-fits64}
use Rattle.osm_pbf.proofs.SizeLemmas.{message-append, message-next}

-- metadata as an entry has it: none where it is left out
abbrev pub info_coded : Bool → EntityValue → ℕ → EntryInfo
info_coded omitted e user = if omitted then no_info else record {
  version = pos e.version;
  timestamp = pos e.time;
  changeset = pos e.changeset;
  uid = pos e.uid;
  user = pos user;
  visible = true;
}

-- a tag as an entry has it
abbrev pub tag_coded : List (List ℕ) → Tag → EntryTag
tag_coded table tag = record { key = pos (text_number table tag.key); value = pos (text_number table tag.value) }

-- a member as an entry has it
abbrev pub member_coded : List (List ℕ) → Member → EntryMember
member_coded table m = record { kind = pos (kind_rank m.kind); id = m.id; role = pos (text_number table m.role) }

-- a body as an entry has it
abbrev pub body_coded : PbfOptions → List (List ℕ) → Body → EntryBody
body_coded options table (Node place) = At (lat_in options place) (lon_in options place)
body_coded options table (Way refs) = Along refs
body_coded options table (Relation members) = Having (map (member_coded table) members)

-- an entity as an entry
abbrev pub entry_coded : PbfOptions → List (List ℕ) → EntityValue → Entry
entry_coded options table e = record {
  even = true;
  id = e.id;
  info = info_coded options.omitmetadata e (user_number options table e.user);
  tags = map (tag_coded table) e.tags;
  body = body_coded options table e.body;
}

-- the numbers of a tag's texts are small
abbrev pub IsTagCodable : List (List ℕ) → Tag → Type 0
IsTagCodable table tag = (text_number table tag.key < 2 ^ 31) × (text_number table tag.value < 2 ^ 31)

-- a member's id and the number of its role fit
abbrev pub IsMemberCodable : List (List ℕ) → Member → Type 0
IsMemberCodable table m = FitsSigned w64 m.id × (text_number table m.role < 2 ^ 31)

-- the numbers of a body fit their fields
abbrev pub IsBodyCodable : PbfOptions → List (List ℕ) → Body → Type 0
IsBodyCodable options table (Node place) = FitsSigned w64 (lat_in options place) × FitsSigned w64 (lon_in options place)
IsBodyCodable options table (Way refs) = Each (FitsSigned w64) refs
IsBodyCodable options table (Relation members) = Each (IsMemberCodable table) members

-- the numbers of an entity fit their fields
pub record IsCodable (options : PbfOptions) (table : List (List ℕ)) (e : EntityValue) : Type 0 where
  pub id : FitsSigned w64 e.id
  pub version : e.version < 2 ^ 31
  pub time : e.time < 2 ^ 32
  pub changeset : e.changeset < 2 ^ 63
  pub uid : e.uid < 2 ^ 31
  pub user : user_number options table e.user < 2 ^ 31
  pub tags : Each (IsTagCodable table) e.tags
  pub body : IsBodyCodable options table e.body

-- metadata is good to write
info-sound : (e : EntityValue) (user : ℕ) → e.version < 2 ^ 31 → e.time < 2 ^ 32 → e.changeset < 2 ^ 63 →
    e.uid < 2 ^ 31 → user < 2 ^ 31 → AreSound (info_fields e user)
info-sound e user version time changeset uid known =
    let five : AreSound (number_field 5 user ∷ []) = (((lit< tt, lit< tt), omega (arith, known)), tt) in
    let four : AreSound (number_field 4 e.uid ∷ number_field 5 user ∷ []) =
    (((lit< tt, lit< tt), omega (arith, uid)), five) in
    let three : AreSound (number_field 3 e.changeset ∷ number_field 4 e.uid ∷ number_field 5 user ∷ []) =
    (((lit< tt, lit< tt), omega (arith, changeset)), four) in (
      ((lit< tt, lit< tt), omega (arith, version)),
      (((lit< tt, lit< tt), omega (arith, time)), three),
    )

-- metadata is read back
info-back : (e : EntityValue) (user : ℕ) → e.version < 2 ^ 31 → e.time < 2 ^ 32 → e.changeset < 2 ^ 63 →
    e.uid < 2 ^ 31 → user < 2 ^ 31 → length (written_message (info_fields e user)) < 2 ^ 64 →
    info (written_message (info_fields e user)) ≡ Some (info_coded false e user)
info-back e user version time changeset uid known few =
    rw (
      message-back (info_fields e user) (info-sound e user version time changeset uid known) few,
      int32-back e.version version,
      int64-back e.time (omega (arith, time)),
      int64-back e.changeset changeset,
      int32-back e.uid uid,
      uint32-back user (omega (arith, known)),
    ) refl

-- the payload of metadata; none where it is left out
abbrev pub info_payload : Bool → List FieldValue → List Payload
info_payload omitted fields = if omitted then [] else Bytes (written_message fields) ∷ []

-- metadata is the payload of its field
pub info-own : (options : PbfOptions) (number : ℕ) (fields : List FieldValue) →
    payloads_of number (info_field options number fields) ≡ info_payload options.omitmetadata fields
info-own options number fields = elim (cases_Bool options.omitmetadata) [
  | inl omitted ↦ rw omitted refl
  | inr written ↦ rw (written, eq-eqb number number refl) refl
]

-- and of no other
pub info-other : (options : PbfOptions) (number other : ℕ) (fields : List FieldValue) → (other ≡ number → ⊥) →
    payloads_of number (info_field options other fields) ≡ []
info-other options number other fields differ =
    cond_both options.omitmetadata [] (bytes_field other (written_message fields) ∷ [])
    (λ list. payloads_of number list ≡ []) (λ _. refl) (λ _. rw (ne_eqb other number differ) refl)

-- what is read of metadata that may be left out
pub info-said : (omitted : Bool) (e : EntityValue) (user : ℕ) (content : List ℕ) (fields : List FieldValue) →
    payloads_of 4 fields ≡ (if omitted then [] else Bytes content ∷ []) →
    (omitted ≡ false → info content ≡ Some (info_coded false e user)) →
    singular no_info info 4 fields ≡ Some (info_coded omitted e user)
info-said true e user content fields is read = singular-none no_info info 4 fields is
info-said false e user content fields is read = singular-back no_info info 4 fields content is ∙ read refl

-- the numbers of the keys of tags
abbrev keys_of : List (List ℕ) → List Tag → List ℕ
keys_of table tags = map (λ t. t.key) (map (numbered_tag table) tags)

-- the numbers of the values of tags
abbrev values_of : List (List ℕ) → List Tag → List ℕ
values_of table tags = map (λ t. t.value) (map (numbered_tag table) tags)

-- the numbers of keys have 64 bits
keys-fit : (table : List (List ℕ)) (tags : List Tag) → Each (IsTagCodable table) tags →
    Each (λ n. n < 2 ^ 64) (keys_of table tags)
keys-fit table [] all = tt
keys-fit table (tag ∷ tags) all = (omega (arith, all.0.0), keys-fit table tags all.1)

-- the numbers of values have 64 bits
values-fit : (table : List (List ℕ)) (tags : List Tag) → Each (IsTagCodable table) tags →
    Each (λ n. n < 2 ^ 64) (values_of table tags)
values-fit table [] all = tt
values-fit table (tag ∷ tags) all = (omega (arith, all.0.1), values-fit table tags all.1)

-- tags are read back
tags-back : (table : List (List ℕ)) (tags : List Tag) → Each (IsTagCodable table) tags →
    entry_tags (keys_of table tags) (values_of table tags) ≡ map (tag_coded table) tags
tags-back table [] all = refl
tags-back table (tag ∷ tags) all =
    let key = uint32-back (text_number table tag.key) (omega (arith, all.0.0)) in
    let value = uint32-back (text_number table tag.value) (omega (arith, all.0.1)) in
    rw (key, value) (ap (λ more. tag_coded table tag ∷ more) (tags-back table tags all.1))

-- there are as many keys as values
tags-even : (table : List (List ℕ)) (tags : List Tag) → length (keys_of table tags) ≡ length (values_of table tags)
tags-even table tags =
    length-map (map (numbered_tag table) tags) (λ t. t.key)
    ∙ sym (length-map (map (numbered_tag table) tags) (λ t. t.value))

-- fields without one of the numbers 1 to 4
record HasHighNumbers (tail : List FieldValue) : Type 0 where
  pub one : payloads_of 1 tail ≡ []
  pub two : payloads_of 2 tail ≡ []
  pub three : payloads_of 3 tail ≡ []
  pub four : payloads_of 4 tail ≡ []

-- the rank of a kind is small
rank-small : (kind : Kind) → kind_rank kind < 3
rank-small OfNode = lit< tt
rank-small OfWay = lit< tt
rank-small OfRelation = lit< tt

-- the rank of a kind is read back
rank-back : (kind : Kind) → int32 (kind_rank kind) ≡ pos (kind_rank kind)
rank-back kind = int32-back (kind_rank kind) (omega (arith, rank-small kind))

-- the numbers of roles have 64 bits
roles-fit : (table : List (List ℕ)) (members : List Member) → Each (IsMemberCodable table) members →
    Each (λ n. n < 2 ^ 64) (map (text_number table) (map (λ m. m.role) members))
roles-fit table [] all = tt
roles-fit table (m ∷ members) all = (omega (arith, all.0.1), roles-fit table members all.1)

-- the ids of members fit
ids-fit : (table : List (List ℕ)) (members : List Member) → Each (IsMemberCodable table) members →
    Each (FitsSigned w64) (map (λ m. m.id) members)
ids-fit table [] all = tt
ids-fit table (m ∷ members) all = (all.0.0, ids-fit table members all.1)

-- the ranks of kinds have 64 bits
kinds-fit : (members : List Member) → Each (λ n. n < 2 ^ 64) (map (λ m. kind_rank m.kind) members)
kinds-fit [] = tt
kinds-fit (m ∷ members) = (omega (arith, rank-small m.kind), kinds-fit members)

-- members are read back
members-back : (table : List (List ℕ)) (members : List Member) → Each (IsMemberCodable table) members →
    entry_members (map int32 (map (λ m. kind_rank m.kind) members)) (map (λ m. m.id) members)
    (map int32 (map (text_number table) (map (λ m. m.role) members)))
    ≡ map (member_coded table) members
members-back table [] all = refl
members-back table (m ∷ members) all =
    rw (rank-back m.kind, int32-back (text_number table m.role) all.0.1)
    (ap (λ more. member_coded table m ∷ more) (members-back table members all.1))

-- lists of one length are even
members-even : (roles ids kinds : List ℕ) (count : ℕ) → length roles ≡ count → length ids ≡ count →
    length kinds ≡ count → (length kinds == length ids) && (length roles == length ids) ≡ true
members-even roles ids kinds count r i k =
    and_from (length kinds == length ids) (length roles == length ids)
    (eq-eqb (length kinds) (length ids) (k ∙ sym i)) (eq-eqb (length roles) (length ids) (r ∙ sym i))

-- the tail of a relation: its roles, its ids and its kinds
abbrev relation_tail : List ℕ → List ℕ → List ℕ → List FieldValue
relation_tail roles ids kinds = packed_field 8 roles ++ (packed_field 9 ids ++ packed_field 10 kinds)

-- it has no field of a low number
relation-other : (number : ℕ) (roles ids kinds : List ℕ) → number < 8 →
    payloads_of number (relation_tail roles ids kinds) ≡ []
relation-other number roles ids kinds low =
    payloads-neither number (packed_field 8 roles) (packed_field 9 ids ++ packed_field 10 kinds)
    (packed-other number 8 roles (λ is. omega (arith, is, low)))
    (payloads-neither number (packed_field 9 ids) (packed_field 10 kinds)
    (packed-other number 9 ids (λ is. omega (arith, is, low)))
    (packed-other number 10 kinds (λ is. omega (arith, is, low))))

-- nor of the numbers 1 to 4
relation-high : (roles ids kinds : List ℕ) → HasHighNumbers (relation_tail roles ids kinds)
relation-high roles ids kinds = record {
  one = relation-other 1 roles ids kinds (lit< tt);
  two = relation-other 2 roles ids kinds (lit< tt);
  three = relation-other 3 roles ids kinds (lit< tt);
  four = relation-other 4 roles ids kinds (lit< tt);
}

-- its roles
relation-roles : (roles ids kinds : List ℕ) →
    payloads_of 8 (relation_tail roles ids kinds) ≡ packed_payload roles
relation-roles roles ids kinds =
    payloads-before 8 (packed_field 8 roles) (packed_field 9 ids ++ packed_field 10 kinds)
    (payloads-neither 8 (packed_field 9 ids) (packed_field 10 kinds)
    (packed-other 8 9 ids (λ is. omega (arith, is))) (packed-other 8 10 kinds (λ is. omega (arith, is))))
    ∙ packed-own 8 roles

-- its ids
relation-ids : (roles ids kinds : List ℕ) → payloads_of 9 (relation_tail roles ids kinds) ≡ packed_payload ids
relation-ids roles ids kinds =
    payloads-behind 9 (packed_field 8 roles) (packed_field 9 ids ++ packed_field 10 kinds)
    (packed-other 9 8 roles (λ is. omega (arith, is)))
    ∙ payloads-before 9 (packed_field 9 ids) (packed_field 10 kinds) (packed-other 9 10 kinds (λ is. omega (arith, is)))
    ∙ packed-own 9 ids

-- its kinds
relation-kinds : (roles ids kinds : List ℕ) → payloads_of 10 (relation_tail roles ids kinds) ≡ packed_payload kinds
relation-kinds roles ids kinds =
    payloads-behind 10 (packed_field 8 roles) (packed_field 9 ids ++ packed_field 10 kinds)
    (packed-other 10 8 roles (λ is. omega (arith, is)))
    ∙ payloads-behind 10 (packed_field 9 ids) (packed_field 10 kinds) (packed-other 10 9 ids (λ is. omega (arith, is)))
    ∙ packed-own 10 kinds

module _ (options : PbfOptions) (table : List (List ℕ)) (e : EntityValue) where
  -- the metadata of the entity
  abbrev metadata : List FieldValue
  metadata = info_fields e (user_number options table e.user)

  -- what it has behind its id
  abbrev behind_id : List FieldValue
  behind_id = described options (with_numbers options table e)

  -- that is good to write
  behind_id-sound : AreSound behind_id
  behind_id-sound =
      let keys = packed_field 2 (keys_of table e.tags) in
      let values = packed_field 3 (values_of table e.tags) in
      each-append IsSound (keys ++ values) (info_field options 4 metadata)
      (each-append IsSound keys values (packed-sound 2 (keys_of table e.tags) (lit< tt, lit< tt))
      (packed-sound 3 (values_of table e.tags) (lit< tt, lit< tt)))
      (cond_both options.omitmetadata [] (bytes_field 4 (written_message metadata) ∷ []) AreSound (λ _. tt)
      (λ _. (((lit< tt, lit< tt), tt), tt)))

  -- its metadata has no more bytes, where it is written
  metadata-few : options.omitmetadata ≡ false → length (written_message behind_id) < 2 ^ 64 →
      length (written_message metadata) < 2 ^ 64
  metadata-few written few =
      let keys = packed_field 2 (keys_of table e.tags) in
      let values = packed_field 3 (values_of table e.tags) in
      let info : info_field options 4 metadata ≡ bytes_field 4 (written_message metadata) ∷ [] = rw written refl in
      omega (
        arith,
        few,
        message-append (keys ++ values) (info_field options 4 metadata),
        ap (λ fields. length (written_message fields)) info,
        message-next (bytes_field 4 (written_message metadata)) [],
        bytes-within 4 (written_message metadata),
      )

  -- its keys
  behind_id-keys : payloads_of 2 behind_id ≡ packed_payload (keys_of table e.tags)
  behind_id-keys =
      let keys = packed_field 2 (keys_of table e.tags) in
      let values = packed_field 3 (values_of table e.tags) in
      payloads-before 2 (keys ++ values) (info_field options 4 metadata)
      (info-other options 2 4 metadata (λ is. omega (arith, is)))
      ∙ payloads-before 2 keys values (packed-other 2 3 (values_of table e.tags) (λ is. omega (arith, is)))
      ∙ packed-own 2 (keys_of table e.tags)

  -- its values
  behind_id-values : payloads_of 3 behind_id ≡ packed_payload (values_of table e.tags)
  behind_id-values =
      let keys = packed_field 2 (keys_of table e.tags) in
      let values = packed_field 3 (values_of table e.tags) in
      payloads-before 3 (keys ++ values) (info_field options 4 metadata)
      (info-other options 3 4 metadata (λ is. omega (arith, is)))
      ∙ payloads-behind 3 keys values (packed-other 3 2 (keys_of table e.tags) (λ is. omega (arith, is)))
      ∙ packed-own 3 (values_of table e.tags)

  -- its metadata
  behind_id-info : payloads_of 4 behind_id ≡ info_payload options.omitmetadata metadata
  behind_id-info =
      let keys = packed_field 2 (keys_of table e.tags) in
      let values = packed_field 3 (values_of table e.tags) in
      payloads-behind 4 (keys ++ values) (info_field options 4 metadata)
      (payloads-neither 4 keys values (packed-other 4 2 (keys_of table e.tags) (λ is. omega (arith, is)))
      (packed-other 4 3 (values_of table e.tags) (λ is. omega (arith, is))))
      ∙ info-own options 4 metadata

  -- and nothing else
  behind_id-other : (number : ℕ) → (2 ≡ number → ⊥) → (3 ≡ number → ⊥) → (4 ≡ number → ⊥) →
      payloads_of number behind_id ≡ []
  behind_id-other number two three four =
      let keys = packed_field 2 (keys_of table e.tags) in
      let values = packed_field 3 (values_of table e.tags) in
      payloads-neither number (keys ++ values) (info_field options 4 metadata)
      (payloads-neither number keys values (packed-other number 2 (keys_of table e.tags) two)
      (packed-other number 3 (values_of table e.tags) three)) (info-other options number 4 metadata four)

  -- a whole message: an id, what stands behind it, and a tail
  abbrev whole : ℕ → List FieldValue → List FieldValue
  whole code tail = number_field 1 code ∷ (behind_id ++ tail)

  -- it says its id
  whole-id : (code : ℕ) (tail : List FieldValue) → HasHighNumbers tail →
      payloads_of 1 (whole code tail) ≡ Varint code ∷ []
  whole-id code tail high =
      ap (λ more. Varint code ∷ more)
      (payloads-neither 1 behind_id tail
      (behind_id-other 1 (λ is. omega (arith, is)) (λ is. omega (arith, is)) (λ is. omega (arith, is))) high.one)

  -- and its tail
  whole-tail : (number code : ℕ) (tail : List FieldValue) → 4 < number →
      payloads_of number (whole code tail) ≡ payloads_of number tail
  whole-tail number code tail high =
      rw (ne_eqb 1 number (λ is. omega (arith, is, high)))
      (payloads-behind number behind_id tail
      (behind_id-other number (λ is. omega (arith, is, high)) (λ is. omega (arith, is, high))
      (λ is. omega (arith, is, high))))

  -- the entry of the message
  whole-back : IsCodable options table e → (id : ℤ) (body : EntryBody) (code : ℕ) (tail : List FieldValue) →
      HasHighNumbers tail → length (written_message (whole code tail)) < 2 ^ 64 →
      entry_with id body true (whole code tail)
      ≡ Some (record {
        even = true;
        id = id;
        info = info_coded options.omitmetadata e (user_number options table e.user);
        tags = map (tag_coded table) e.tags;
        body = body;
      })
  whole-back can id body code tail high few =
      let fields = whole code tail in
      let short : length (written_message behind_id) < 2 ^ 64 = omega (
        arith,
        few,
        message-next (number_field 1 code) (behind_id ++ tail),
        message-append behind_id tail,
      ) in
      let keys = repeated-back 2 fields (keys_of table e.tags)
      (payloads-before 2 behind_id tail high.two ∙ behind_id-keys) (keys-fit table e.tags can.tags) in
      let values = repeated-back 3 fields (values_of table e.tags)
      (payloads-before 3 behind_id tail high.three ∙ behind_id-values) (values-fit table e.tags can.tags) in
      let known = info-said options.omitmetadata e (user_number options table e.user) (written_message metadata) fields
      (payloads-before 4 behind_id tail high.four ∙ behind_id-info)
      (λ written. info-back e (user_number options table e.user) can.version can.time can.changeset can.uid can.user
      (metadata-few written short)) in
      rw (
        keys,
        values,
        known,
        eq-eqb (length (keys_of table e.tags)) (length (values_of table e.tags)) (tags-even table e.tags),
        tags-back table e.tags can.tags,
      ) refl

  -- the whole message is good to write, where its tail is
  whole-sound : (code : ℕ) (tail : List FieldValue) → code < 2 ^ 64 → AreSound tail → AreSound (whole code tail)
  whole-sound code tail fits sound =
      (((lit< tt, lit< tt), fits), each-append IsSound behind_id tail behind_id-sound sound)

  -- an entity with another body as an entry
  abbrev pub entry_of : EntryBody → Entry
  entry_of body = record {
    even = true;
    id = e.id;
    info = info_coded options.omitmetadata e (user_number options table e.user);
    tags = map (tag_coded table) e.tags;
    body = body;
  }

  -- a node is read back
  pub node-back : (place : Option Place) → IsCodable options table e → FitsSigned w64 (lat_in options place) →
      FitsSigned w64 (lon_in options place) →
      length (written_message (node_fields options place (with_numbers options table e))) < 2 ^ 64 →
      node_entry (written_message (node_fields options place (with_numbers options table e)))
      ≡ Some (entry_of (At (lat_in options place) (lon_in options place)))
  node-back place can lat lon few =
      let code : ℕ = zigzagged e.id in
      let north : ℕ = zigzagged (lat_in options place) in
      let east : ℕ = zigzagged (lon_in options place) in
      let tail : List FieldValue = number_field 8 north ∷ number_field 9 east ∷ [] in
      let high : HasHighNumbers tail = record { one = refl; two = refl; three = refl; four = refl } in
      let sound : AreSound tail = (
        ((lit< tt, lit< tt), zigzag-fits64 (lat_in options place) lat),
        (((lit< tt, lit< tt), zigzag-fits64 (lon_in options place) lon), tt),
      ) in
      let fields : List FieldValue = whole code tail in
      rw (
        message-back fields (whole-sound code tail (zigzag-fits64 e.id can.id) sound) few,
        needed-back 1 fields code (whole-id code tail high),
        needed-back 8 fields north (whole-tail 8 code tail (lit< tt)),
        needed-back 9 fields east (whole-tail 9 code tail (lit< tt)),
        zigzag-back e.id,
        zigzag-back (lat_in options place),
        zigzag-back (lon_in options place),
      )
      (whole-back can e.id (At (lat_in options place) (lon_in options place)) code tail high few)

  -- a way is read back
  pub way-back : (refs : List ℤ) → IsCodable options table e → Each (FitsSigned w64) refs →
      length (written_message (way_fields options refs (with_numbers options table e))) < 2 ^ 64 →
      way_entry (written_message (way_fields options refs (with_numbers options table e)))
      ≡ Some (entry_of (Along refs))
  way-back refs can fit few =
      let code : ℕ = cast_unsigned w64 e.id in
      let codes = map zigzagged (deltas w64 refs) in
      let tail : List FieldValue = packed_field 8 codes in
      let high : HasHighNumbers tail = record {
        one = packed-other 1 8 codes (λ is. omega (arith, is));
        two = packed-other 2 8 codes (λ is. omega (arith, is));
        three = packed-other 3 8 codes (λ is. omega (arith, is));
        four = packed-other 4 8 codes (λ is. omega (arith, is));
      } in
      let fields : List FieldValue = whole code tail in
      rw (
        message-back fields (whole-sound code tail (id-fits e.id can.id) (packed-sound 8 codes (lit< tt, lit< tt))) few,
        needed-back 1 fields code (whole-id code tail high),
        repeated-back 8 fields codes (whole-tail 8 code tail (lit< tt) ∙ packed-own 8 codes) (column64-codes refs),
        id-back e.id can.id,
        column64-back refs fit,
      )
      (whole-back can e.id (Along refs) code tail high few)

  -- a relation is read back
  pub relation-back : (members : List Member) → e.body ≡ Relation members → IsCodable options table e →
      Each (IsMemberCodable table) members →
      length (written_message (relation_fields options members (with_numbers options table e))) < 2 ^ 64 →
      relation_entry (written_message (relation_fields options members (with_numbers options table e)))
      ≡ Some (entry_of (Having (map (member_coded table) members)))
  relation-back members is can fit few =
      let code : ℕ = cast_unsigned w64 e.id in
      let roles : List ℕ = map (text_number table) (role_texts e.body) in
      let ids : List ℕ = map zigzagged (deltas w64 (map (λ m. m.id) members)) in
      let kinds : List ℕ = map (λ m. kind_rank m.kind) members in
      let tail : List FieldValue = packed_field 8 roles ++ (packed_field 9 ids ++ packed_field 10 kinds) in
      let fields : List FieldValue = whole code tail in
      let all : relation_fields options members (with_numbers options table e) ≡ fields =
      ap (λ list. number_field 1 code ∷ list)
      (append_assoc (behind_id ++ packed_field 8 roles) (packed_field 9 ids) (packed_field 10 kinds)
      ∙ append_assoc behind_id (packed_field 8 roles) (packed_field 9 ids ++ packed_field 10 kinds)) in
      let same : roles ≡ map (text_number table) (map (λ m. m.role) members) =
      ap (λ body. map (text_number table) (role_texts body)) is in
      let high = relation-high roles ids kinds in
      let sound : AreSound tail =
      each-append IsSound (packed_field 8 roles) (packed_field 9 ids ++ packed_field 10 kinds)
      (packed-sound 8 roles (lit< tt, lit< tt))
      (each-append IsSound (packed_field 9 ids) (packed_field 10 kinds) (packed-sound 9 ids (lit< tt, lit< tt))
      (packed-sound 10 kinds (lit< tt, lit< tt))) in
      let short : length (written_message fields) < 2 ^ 64 =
      subst (λ list. length (written_message list) < 2 ^ 64) all few in
      let roles_fit = subst (Each (λ n. n < 2 ^ 64)) (sym same) (roles-fit table members fit) in
      let have : entry_members (map int32 kinds) (map (λ m. m.id) members) (map int32 roles)
      ≡ map (member_coded table) members =
      ap (λ list. entry_members (map int32 kinds) (map (λ m. m.id) members) (map int32 list)) same
      ∙ members-back table members fit in
      let even : (length kinds == length ids) && (length roles == length ids) ≡ true =
      members-even roles ids kinds (length members)
      (ap length same ∙ length-map (map (λ m. m.role) members) (text_number table) ∙ length-map members (λ m. m.role))
      (codes-length w64 (map (λ m. m.id) members) ∙ length-map members (λ m. m.id))
      (length-map members (λ m. kind_rank m.kind)) in
      ap (λ list. relation_entry (written_message list)) all
      ∙ rw (
        message-back fields (whole-sound code tail (id-fits e.id can.id) sound) short,
        needed-back 1 fields code (whole-id code tail high),
        repeated-back 8 fields roles (whole-tail 8 code tail (lit< tt) ∙ relation-roles roles ids kinds) roles_fit,
        repeated-back 9 fields ids (whole-tail 9 code tail (lit< tt) ∙ relation-ids roles ids kinds)
            (column64-codes (map (λ m. m.id) members)),
        repeated-back 10 fields kinds (whole-tail 10 code tail (lit< tt) ∙ relation-kinds roles ids kinds)
            (kinds-fit members),
        id-back e.id can.id,
        column64-back (map (λ m. m.id) members) (ids-fit table members fit),
        have,
        even,
      )
      (whole-back can e.id (Having (map (member_coded table) members)) code tail high short)
