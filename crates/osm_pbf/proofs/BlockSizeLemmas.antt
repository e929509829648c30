-- A block has no more bytes than half as much again as its entities weigh, and a few.
use Rattle.std.proofs.Common.{◌≡◌, ℕ, ◌+◌, ◌*◌, ◌<◌, ◌≤◌, List, [], ◌∷◌, ◌++◌, length, map, true, false, refl, ◌∙◌, arith}
use Rattle.std.specs.Prelude.{Bool, ℤ, pos, Option, not, bytes_eq, sum_by, ◌==◌}
use Rattle.std.specs.Int.{w32, w64, cast_unsigned}
use Rattle.std.specs.List.{flat_map, list_any}
use Rattle.std.proofs.lemmas.Bool.{cond_both}
use Rattle.std.proofs.lemmas.List.{length-append, length-map}
use Rattle.std.proofs.lemmas.List.Filters.{sum_by-filter_both}
use Rattle.std.proofs.lemmas.List.Sums.{sum_by-append, sum_by-cons}
use Rattle.osm_entity.specs.Entities.{EntityValue, body_weight, member_weight, tag_weight, weight_of}
use Rattle.osm_entity.specs.Keys.{kind_rank}
use Rattle.osm_entity.specs.declared.kind.Kind.{Kind}
use Rattle.osm_entity.specs.declared.parts.Body.{Body}
use Rattle.osm_entity.specs.declared.parts.Body.TheVariants.{Node, Way, Relation}
use Rattle.osm_entity.specs.declared.parts.Member.{Member}
use Rattle.osm_entity.specs.declared.parts.Place.{Place}
use Rattle.osm_entity.specs.declared.parts.Tag.{Tag}
use Rattle.osm_wire.specs.Integers.{zigzagged}
use Rattle.osm_wire.specs.Messages.{FieldValue}
use Rattle.osm_wire.specs.Written.{written_field, written_message}
use Rattle.osm_blob.specs.Messages.{raw_limit}
use Rattle.osm_block_write.specs.declared.options.PbfOptions.{PbfOptions}
use Rattle.osm_block_write.specs.Block.{block_bytes, granularity_field, group_fields, is_dense}
use Rattle.osm_block_write.specs.Columns.{bytes_field, delta_field, number_field, packed_field}
use Rattle.osm_block_write.specs.Messages.{body_field, dense_fields, dense_info_fields, described, entity_field, has_tags, info_field, info_fields, keys_vals, keys_vals_field, lat_in, lon_in, node_fields, place_in, relation_fields, way_fields}
use Rattle.osm_block_write.specs.Numbered.{Numbered, NumberedTag, numbered_tag, with_numbers}
use Rattle.osm_block_write.specs.Runs.{greatest_run, total_weight}
use Rattle.osm_block_write.specs.Tables.{first_uses, role_texts, table_of, tag_texts, text_number, texts_of, user_texts, without}
use Rattle.osm_pbf.proofs.SizeLemmas.{bytes-size, delta_field-size, low_number-size, message-append, message-next, number-size, packed_field-size}

-- the bytes of fields
abbrev size : List FieldValue → ℕ
size fields = length (written_message fields)

-- metadata that may be left out
info_field-size : (options : PbfOptions) (number : ℕ) (info : List FieldValue) → number < 16 →
    size (info_field options number info) ≤ 11 + size info
info_field-size options number info low =
    cond_both options.omitmetadata [] (bytes_field number (written_message info) ∷ [])
    (λ fields. size fields ≤ 11 + size info) (λ _. omega arith)
    (λ _. omega (
      arith,
      message-next (bytes_field number (written_message info)) [],
      bytes-size number (written_message info) low,
    ))

-- the metadata of an entity
info_fields-size : (e : EntityValue) (user : ℕ) → size (info_fields e user) ≤ 55
info_fields-size e user = omega (
  arith,
  message-next (number_field 1 e.version)
      (number_field 2 e.time ∷ number_field 3 e.changeset ∷ number_field 4 e.uid ∷ number_field 5 user ∷ []),
  message-next (number_field 2 e.time) (number_field 3 e.changeset ∷ number_field 4 e.uid ∷ number_field 5 user ∷ []),
  message-next (number_field 3 e.changeset) (number_field 4 e.uid ∷ number_field 5 user ∷ []),
  message-next (number_field 4 e.uid) (number_field 5 user ∷ []),
  message-next (number_field 5 user) [],
  low_number-size 1 e.version (omega arith),
  low_number-size 2 e.time (omega arith),
  low_number-size 3 e.changeset (omega arith),
  low_number-size 4 e.uid (omega arith),
  low_number-size 5 user (omega arith),
)

-- what every entity has behind its id
described-size : (options : PbfOptions) (n : Numbered) → size (described options n) ≤ 88 + 20 * length n.tags
described-size options n =
    let keys = packed_field 2 (map (λ t. t.key) n.tags) in
    let values = packed_field 3 (map (λ t. t.value) n.tags) in
    let info = info_field options 4 (info_fields n.entity n.user) in
    omega (
      arith,
      message-append (keys ++ values) info,
      message-append keys values,
      packed_field-size 2 (map (λ t. t.key) n.tags) (omega arith),
      packed_field-size 3 (map (λ t. t.value) n.tags) (omega arith),
      length-map n.tags (λ t. t.key),
      length-map n.tags (λ t. t.value),
      info_field-size options 4 (info_fields n.entity n.user) (omega arith),
      info_fields-size n.entity n.user,
    )

-- a node
node-size : (options : PbfOptions) (place : Option Place) (n : Numbered) →
    size (node_fields options place n) ≤ 121 + 20 * length n.tags
node-size options place n =
    let id = number_field 1 (zigzagged n.entity.id) in
    let lat = number_field 8 (zigzagged (lat_in options place)) in
    let lon = number_field 9 (zigzagged (lon_in options place)) in
    omega (
      arith,
      message-next id (described options n ++ lat ∷ lon ∷ []),
      message-append (described options n) (lat ∷ lon ∷ []),
      message-next lat (lon ∷ []),
      message-next lon [],
      low_number-size 1 (zigzagged n.entity.id) (omega arith),
      low_number-size 8 (zigzagged (lat_in options place)) (omega arith),
      low_number-size 9 (zigzagged (lon_in options place)) (omega arith),
      described-size options n,
    )

-- a way
way-size : (options : PbfOptions) (refs : List ℤ) (n : Numbered) →
    size (way_fields options refs n) ≤ 110 + 20 * length n.tags + 10 * length refs
way-size options refs n =
    let id = number_field 1 (cast_unsigned w64 n.entity.id) in
    omega (
      arith,
      message-next id (described options n ++ delta_field w64 8 refs),
      message-append (described options n) (delta_field w64 8 refs),
      low_number-size 1 (cast_unsigned w64 n.entity.id) (omega arith),
      described-size options n,
      delta_field-size w64 8 refs (omega arith),
    )

-- a relation
relation-size : (options : PbfOptions) (members : List Member) (n : Numbered) → length n.roles ≡ length members →
    size (relation_fields options members n) ≤ 132 + 20 * length n.tags + 30 * length members
relation-size options members n own =
    let id = number_field 1 (cast_unsigned w64 n.entity.id) in
    let roles = packed_field 8 n.roles in
    let ids = delta_field w64 9 (map (λ m. m.id) members) in
    let kinds = packed_field 10 (map (λ m. kind_rank m.kind) members) in
    omega (
      arith,
      own,
      message-next id (((described options n ++ roles) ++ ids) ++ kinds),
      message-append ((described options n ++ roles) ++ ids) kinds,
      message-append (described options n ++ roles) ids,
      message-append (described options n) roles,
      low_number-size 1 (cast_unsigned w64 n.entity.id) (omega arith),
      described-size options n,
      packed_field-size 8 n.roles (omega arith),
      delta_field-size w64 9 (map (λ m. m.id) members) (omega arith),
      length-map members (λ m. m.id),
      packed_field-size 10 (map (λ m. kind_rank m.kind) members) (omega arith),
      length-map members (λ m. kind_rank m.kind),
    )

-- ten bytes for each ref, and thirty for each member
abbrev body_size : Body → ℕ
body_size (Node place) = 0
body_size (Way refs) = 10 * length refs
body_size (Relation members) = 30 * length members

-- twenty bytes for each tag, what its body takes, and 143
abbrev entity_size : EntityValue → ℕ
entity_size e = 143 + 20 * length e.tags + body_size e.body

-- the message of an entity
body_field-size : (options : PbfOptions) (body : Body) (n : Numbered) → length n.roles ≡ length (role_texts body) →
    length (written_field (body_field options body n)) ≤ 143 + 20 * length n.tags + body_size body
body_field-size options (Node place) n own = omega (
  arith,
  bytes-size 1 (written_message (node_fields options place n)) (omega arith),
  node-size options place n,
)
body_field-size options (Way refs) n own = omega (
  arith,
  bytes-size 3 (written_message (way_fields options refs n)) (omega arith),
  way-size options refs n,
)
body_field-size options (Relation members) n own = omega (
  arith,
  bytes-size 4 (written_message (relation_fields options members n)) (omega arith),
  relation-size options members n (own ∙ length-map members (λ m. m.role)),
)

-- the messages of entities
entities-size : (options : PbfOptions) (table : List (List ℕ)) (run : List EntityValue) →
    size (map (entity_field options) (map (with_numbers options table) run)) ≤ sum_by entity_size run
entities-size options table [] = omega arith
entities-size options table (e ∷ run) =
    let n = with_numbers options table e in
    omega (
      arith,
      message-next (entity_field options n) (map (entity_field options) (map (with_numbers options table) run)),
      body_field-size options e.body n (length-map (role_texts e.body) (text_number table)),
      length-map e.tags (numbered_tag table),
      entities-size options table run,
      sum_by-cons entity_size e run,
    )

-- the keys and the values of a node
keys_vals-size : (tags : List NumberedTag) → length (flat_map (λ t. t.key ∷ t.value ∷ []) tags) ≡ 2 * length tags
keys_vals-size [] = refl
keys_vals-size (tag ∷ tags) = omega (arith, keys_vals-size tags)

-- eight numbers for each node, and its keys and values
nodes-size : (options : PbfOptions) (table : List (List ℕ)) (run : List EntityValue) →
    80 * length run + 10 * length (flat_map (λ n. keys_vals n.tags) (map (with_numbers options table) run))
    ≤ sum_by entity_size run
nodes-size options table [] = omega arith
nodes-size options table (e ∷ run) =
    let n = with_numbers options table e in
    omega (
      arith,
      length-append (keys_vals n.tags) (flat_map (λ n. keys_vals n.tags) (map (with_numbers options table) run)),
      length-append (flat_map (λ t. t.key ∷ t.value ∷ []) n.tags) (0 ∷ []),
      keys_vals-size n.tags,
      length-map e.tags (numbered_tag table),
      nodes-size options table run,
      sum_by-cons entity_size e run,
    )

-- the metadata of dense nodes
dense_info-size : (nodes : List Numbered) → size (dense_info_fields nodes) ≤ 55 + 50 * length nodes
dense_info-size nodes =
    let versions = packed_field 1 (map (λ n. n.entity.version) nodes) in
    let times = delta_field w64 2 (map (λ n. pos n.entity.time) nodes) in
    let changesets = delta_field w64 3 (map (λ n. pos n.entity.changeset) nodes) in
    let uids = delta_field w32 4 (map (λ n. pos n.entity.uid) nodes) in
    let users = delta_field w32 5 (map (λ n. pos n.user) nodes) in
    omega (
      arith,
      message-append (((versions ++ times) ++ changesets) ++ uids) users,
      message-append ((versions ++ times) ++ changesets) uids,
      message-append (versions ++ times) changesets,
      message-append versions times,
      packed_field-size 1 (map (λ n. n.entity.version) nodes) (omega arith),
      delta_field-size w64 2 (map (λ n. pos n.entity.time) nodes) (omega arith),
      delta_field-size w64 3 (map (λ n. pos n.entity.changeset) nodes) (omega arith),
      delta_field-size w32 4 (map (λ n. pos n.entity.uid) nodes) (omega arith),
      delta_field-size w32 5 (map (λ n. pos n.user) nodes) (omega arith),
      length-map nodes (λ n. n.entity.version),
      length-map nodes (λ n. pos n.entity.time),
      length-map nodes (λ n. pos n.entity.changeset),
      length-map nodes (λ n. pos n.entity.uid),
      length-map nodes (λ n. pos n.user),
    )

-- the tags of dense nodes
keys_vals_field-size : (nodes : List Numbered) →
    size (keys_vals_field nodes) ≤ 11 + 10 * length (flat_map (λ n. keys_vals n.tags) nodes)
keys_vals_field-size nodes =
    let tags = flat_map (λ n. keys_vals n.tags) nodes in
    cond_both (list_any (λ n. has_tags n.entity) nodes) (packed_field 10 tags) []
    (λ fields. size fields ≤ 11 + 10 * length tags) (λ _. packed_field-size 10 tags (omega arith)) (λ _. omega arith)

-- dense nodes
dense-size : (options : PbfOptions) (nodes : List Numbered) →
    size (dense_fields options nodes)
    ≤ 110 + 80 * length nodes + 10 * length (flat_map (λ n. keys_vals n.tags) nodes)
dense-size options nodes =
    let ids = delta_field w64 1 (map (λ n. n.entity.id) nodes) in
    let info = info_field options 5 (dense_info_fields nodes) in
    let lats = delta_field w64 8 (map (λ n. lat_in options (place_in n.entity.body)) nodes) in
    let lons = delta_field w64 9 (map (λ n. lon_in options (place_in n.entity.body)) nodes) in
    omega (
      arith,
      message-append (((ids ++ info) ++ lats) ++ lons) (keys_vals_field nodes),
      message-append ((ids ++ info) ++ lats) lons,
      message-append (ids ++ info) lats,
      message-append ids info,
      delta_field-size w64 1 (map (λ n. n.entity.id) nodes) (omega arith),
      info_field-size options 5 (dense_info_fields nodes) (omega arith),
      dense_info-size nodes,
      delta_field-size w64 8 (map (λ n. lat_in options (place_in n.entity.body)) nodes) (omega arith),
      delta_field-size w64 9 (map (λ n. lon_in options (place_in n.entity.body)) nodes) (omega arith),
      length-map nodes (λ n. n.entity.id),
      length-map nodes (λ n. lat_in options (place_in n.entity.body)),
      length-map nodes (λ n. lon_in options (place_in n.entity.body)),
      keys_vals_field-size nodes,
    )

-- the group of a run
group-size : (dense : Bool) (options : PbfOptions) (table : List (List ℕ)) (run : List EntityValue) →
    size (group_fields dense options (map (with_numbers options table) run)) ≤ 121 + sum_by entity_size run
group-size true options table run =
    let nodes = map (with_numbers options table) run in
    omega (
      arith,
      message-next (bytes_field 2 (written_message (dense_fields options nodes))) [],
      bytes-size 2 (written_message (dense_fields options nodes)) (omega arith),
      dense-size options nodes,
      length-map run (with_numbers options table),
      nodes-size options table run,
    )
group-size false options table run = omega (arith, entities-size options table run)

-- a text in a table
abbrev text_size : List ℕ → ℕ
text_size text = 11 + length text

-- the texts of a table
texts-size : (table : List (List ℕ)) → size (map (bytes_field 1) table) ≤ sum_by text_size table
texts-size [] = omega arith
texts-size (text ∷ table) = omega (
  arith,
  message-next (bytes_field 1 text) (map (bytes_field 1) table),
  bytes-size 1 text (omega arith),
  texts-size table,
  sum_by-cons text_size text table,
)

-- texts without one of them
without-size : (text : List ℕ) (texts : List (List ℕ)) → sum_by text_size (without text texts) ≤ sum_by text_size texts
without-size text texts = omega (
  arith,
  sum_by-filter_both (λ t. not (bytes_eq text t)) (λ t. not (not (bytes_eq text t))) (λ _. refl) text_size texts,
)

-- each text once
first_uses-size : (texts : List (List ℕ)) → sum_by text_size (first_uses texts) ≤ sum_by text_size texts
first_uses-size [] = omega arith
first_uses-size (text ∷ texts) = omega (
  arith,
  sum_by-cons text_size text (without text (first_uses texts)),
  sum_by-cons text_size text texts,
  without-size text (first_uses texts),
  first_uses-size texts,
)

-- a user that may be left out
user-size : (options : PbfOptions) (e : EntityValue) → sum_by text_size (user_texts options e) ≤ 11 + length e.user
user-size options e =
    cond_both options.omitmetadata [] (e.user ∷ []) (λ texts. sum_by text_size texts ≤ 11 + length e.user)
    (λ _. omega arith) (λ _. omega (arith, sum_by-cons text_size e.user []))

-- tags, and their texts
tags-size : (tags : List Tag) →
    2 * (20 * length tags + sum_by text_size (flat_map tag_texts tags)) ≤ 3 * sum_by tag_weight tags
tags-size [] = omega arith
tags-size (tag ∷ tags) = omega (
  arith,
  tags-size tags,
  sum_by-cons tag_weight tag tags,
  sum_by-cons text_size tag.key (tag.value ∷ flat_map tag_texts tags),
  sum_by-cons text_size tag.value (flat_map tag_texts tags),
)

-- members, and their texts
members-size : (members : List Member) →
    2 * (30 * length members + sum_by text_size (map (λ m. m.role) members)) ≤ 3 * sum_by member_weight members
members-size [] = omega arith
members-size (member ∷ members) = omega (
  arith,
  members-size members,
  sum_by-cons member_weight member members,
  sum_by-cons text_size member.role (map (λ m. m.role) members),
)

-- bodies, and their texts
body-size : (body : Body) → 2 * (body_size body + sum_by text_size (role_texts body)) ≤ 3 * body_weight body
body-size (Node place) = omega arith
body-size (Way refs) = omega arith
body-size (Relation members) = members-size members

-- an entity, and its texts
entity-size : (options : PbfOptions) (e : EntityValue) →
    2 * (entity_size e + sum_by text_size (texts_of options e)) ≤ 3 * weight_of e
entity-size options e = omega (
  arith,
  sum_by-append text_size (user_texts options e ++ flat_map tag_texts e.tags) (role_texts e.body),
  sum_by-append text_size (user_texts options e) (flat_map tag_texts e.tags),
  user-size options e,
  tags-size e.tags,
  body-size e.body,
)

-- entities, and their texts
run-size : (options : PbfOptions) (run : List EntityValue) →
    2 * (sum_by entity_size run + sum_by text_size (flat_map (texts_of options) run)) ≤ 3 * total_weight run
run-size options [] = omega arith
run-size options (e ∷ run) = omega (
  arith,
  entity-size options e,
  run-size options run,
  sum_by-cons entity_size e run,
  sum_by-cons weight_of e run,
  sum_by-append text_size (texts_of options e) (flat_map (texts_of options) run),
)

-- the table of a run
table-size : (options : PbfOptions) (run : List EntityValue) →
    size (map (bytes_field 1) (table_of options run)) ≤ 11 + sum_by text_size (flat_map (texts_of options) run)
table-size options run =
    let texts = flat_map (texts_of options) run in
    omega (
      arith,
      texts-size (table_of options run),
      first_uses-size ([] ∷ texts),
      sum_by-cons text_size [] texts,
    )

-- a granularity that may be left out
granularity-size : (granularity : ℕ) → size (granularity_field granularity) ≤ 20
granularity-size granularity =
    cond_both (granularity == 100) [] (number_field 17 granularity ∷ []) (λ fields. size fields ≤ 20) (λ _. omega arith)
    (λ _. omega (arith, message-next (number_field 17 granularity) [], number-size 17 granularity))

-- a block of a run that isn't too heavy has fewer bytes than a frame's content may have
pub block-short : (options : PbfOptions) (kind : Kind) (run : List EntityValue) → total_weight run ≤ greatest_run →
    length (block_bytes options kind run) < raw_limit
block-short options kind run light =
    let table = table_of options run in
    let texts = written_message (map (bytes_field 1) table) in
    let group = written_message
    (group_fields (is_dense options kind) options (map (with_numbers options table) run)) in
    omega (
      arith,
      light,
      message-next (bytes_field 1 texts) (bytes_field 2 group ∷ granularity_field options.granularity),
      message-next (bytes_field 2 group) (granularity_field options.granularity),
      bytes-size 1 texts (omega arith),
      bytes-size 2 group (omega arith),
      granularity-size options.granularity,
      table-size options run,
      group-size (is_dense options kind) options table run,
      run-size options run,
    )
