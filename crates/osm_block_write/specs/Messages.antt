-- The messages of entities, and of nodes that are written densely.
-- Here a message is one formula of whole columns; the code appends field after field.
use Rattle.std.specs.Prelude.{ℕ, ℤ, pos, int_div, List, [], ◌∷◌, ◌++◌, map, length, Bool, nat_lt, if◌then◌else◌, Option, Some, None}
use Rattle.std.specs.Int.{w32, w64, cast_unsigned}
use Rattle.std.specs.List.{flat_map, list_any}
use Rattle.osm_entity.specs.Entities.{EntityValue}
use Rattle.osm_entity.specs.Keys.{kind_rank}
use Rattle.osm_entity.specs.declared.parts.Body.{Body}
use Rattle.osm_entity.specs.declared.parts.Body.TheVariants.{Node, Way, Relation}
use Rattle.osm_entity.specs.declared.parts.Member.{Member}
use Rattle.osm_entity.specs.declared.parts.Place.{Place}
use Rattle.osm_wire.specs.Integers.{zigzagged}
use Rattle.osm_wire.specs.Messages.{FieldValue}
use Rattle.osm_wire.specs.Written.{written_message}
use Rattle.osm_block_write.specs.declared.options.PbfOptions.{PbfOptions}
use Rattle.osm_block_write.specs.Columns.{bytes_field, delta_field, number_field, packed_field}
use Rattle.osm_block_write.specs.Numbered.{Numbered, NumberedTag}

-- a number of nanodegrees by units of the granularity, cut toward zero
abbrev pub in_units : PbfOptions → ℤ → ℤ
in_units options nanodegrees = int_div nanodegrees (pos options.granularity)

-- the longitude that is written of a place, and 0 where there is none
abbrev pub lon_in : PbfOptions → Option Place → ℤ
lon_in options None = pos 0
lon_in options (Some place) = in_units options place.lon

-- the latitude that is written of a place, and 0 where there is none
abbrev pub lat_in : PbfOptions → Option Place → ℤ
lat_in options None = pos 0
lat_in options (Some place) = in_units options place.lat

-- the place of a node
abbrev pub place_in : Body → Option Place
place_in (Node place) = place
place_in (Way refs) = None
place_in (Relation members) = None

-- the metadata of an entity: version, time, changeset, uid and the number of its user, each written also where it is 0
abbrev pub info_fields : EntityValue → ℕ → List FieldValue
info_fields e user =
    number_field 1 e.version ∷ number_field 2 e.time ∷ number_field 3 e.changeset ∷ number_field 4 e.uid
    ∷ number_field 5 user ∷ []

-- metadata as a message within another, under this number; none where it is left out
abbrev pub info_field : PbfOptions → ℕ → List FieldValue → List FieldValue
info_field options number info =
    if options.omitmetadata then [] else bytes_field number (written_message info) ∷ []

-- what every entity has behind its id: keys, values and metadata
abbrev pub described : PbfOptions → Numbered → List FieldValue
described options n =
    packed_field 2 (map (λ t. t.key) n.tags) ++ packed_field 3 (map (λ t. t.value) n.tags)
    ++ info_field options 4 (info_fields n.entity n.user)

-- a node: its id by zigzag, what every entity has, and its latitude and longitude by zigzag
abbrev pub node_fields : PbfOptions → Option Place → Numbered → List FieldValue
node_fields options place n =
    number_field 1 (zigzagged n.entity.id) ∷ described options n
    ++ number_field 8 (zigzagged (lat_in options place)) ∷ number_field 9 (zigzagged (lon_in options place)) ∷ []

-- a way: its id, what every entity has, and its refs
abbrev pub way_fields : PbfOptions → List ℤ → Numbered → List FieldValue
way_fields options refs n =
    number_field 1 (cast_unsigned w64 n.entity.id) ∷ described options n ++ delta_field w64 8 refs

-- a relation: its id, what every entity has, and the roles, the ids and the kinds of its members
abbrev pub relation_fields : PbfOptions → List Member → Numbered → List FieldValue
relation_fields options members n =
    number_field 1 (cast_unsigned w64 n.entity.id) ∷ described options n ++ packed_field 8 n.roles
    ++ delta_field w64 9 (map (λ m. m.id) members) ++ packed_field 10 (map (λ m. kind_rank m.kind) members)

-- a body's entity as a message of its group: 1 is a node, 3 a way, 4 a relation
abbrev pub body_field : PbfOptions → Body → Numbered → FieldValue
body_field options (Node place) n = bytes_field 1 (written_message (node_fields options place n))
body_field options (Way refs) n = bytes_field 3 (written_message (way_fields options refs n))
body_field options (Relation members) n = bytes_field 4 (written_message (relation_fields options members n))

-- an entity as a message of its group
abbrev pub entity_field : PbfOptions → Numbered → FieldValue
entity_field options n = body_field options n.entity.body n

-- the metadata of dense nodes: versions as they are, and times, changesets, uids and users delta coded
abbrev pub dense_info_fields : List Numbered → List FieldValue
dense_info_fields nodes =
    packed_field 1 (map (λ n. n.entity.version) nodes)
    ++ delta_field w64 2 (map (λ n. pos n.entity.time) nodes)
    ++ delta_field w64 3 (map (λ n. pos n.entity.changeset) nodes)
    ++ delta_field w32 4 (map (λ n. pos n.entity.uid) nodes)
    ++ delta_field w32 5 (map (λ n. pos n.user) nodes)

-- whether an entity has tags
abbrev pub has_tags : EntityValue → Bool
has_tags e = nat_lt 0 (length e.tags)

-- the tags of a dense node: the key and the value of each, and then a 0
abbrev pub keys_vals : List NumberedTag → List ℕ
keys_vals tags = flat_map (λ t. t.key ∷ t.value ∷ []) tags ++ 0 ∷ []

-- the tags of dense nodes; none where no node has any
abbrev pub keys_vals_field : List Numbered → List FieldValue
keys_vals_field nodes =
    if list_any (λ n. has_tags n.entity) nodes then packed_field 10 (flat_map (λ n. keys_vals n.tags) nodes) else []

-- dense nodes: ids, metadata, latitudes, longitudes and tags, each as one column
abbrev pub dense_fields : PbfOptions → List Numbered → List FieldValue
dense_fields options nodes =
    delta_field w64 1 (map (λ n. n.entity.id) nodes)
    ++ info_field options 5 (dense_info_fields nodes)
    ++ delta_field w64 8 (map (λ n. lat_in options (place_in n.entity.body)) nodes)
    ++ delta_field w64 9 (map (λ n. lon_in options (place_in n.entity.body)) nodes)
    ++ keys_vals_field nodes
