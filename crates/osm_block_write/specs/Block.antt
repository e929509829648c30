-- The bytes of a header block, and of the block of a run.
-- Here a block is one formula of the whole run; the code takes entity after entity.
use Rattle.std.specs.Prelude.{ℕ, List, [], ◌∷◌, map, codes, Bool, false, ◌==◌, if◌then◌else◌}
use Rattle.osm_entity.specs.Entities.{EntityValue}
use Rattle.osm_entity.specs.Items.{kind_of}
use Rattle.osm_entity.specs.declared.kind.Kind.{Kind}
use Rattle.osm_entity.specs.declared.kind.Kind.TheVariants.{Node as OfNode, Way as OfWay, Relation as OfRelation}
use Rattle.osm_wire.specs.Messages.{FieldValue}
use Rattle.osm_wire.specs.Written.{written_message}
use Rattle.osm_block_write.specs.declared.options.PbfOptions.{PbfOptions}
use Rattle.osm_block_write.specs.Columns.{bytes_field, number_field}
use Rattle.osm_block_write.specs.Messages.{dense_fields, entity_field}
use Rattle.osm_block_write.specs.Numbered.{Numbered, with_numbers}
use Rattle.osm_block_write.specs.Tables.{table_of}

-- the feature of dense nodes; none where they aren't used
abbrev pub dense_feature : PbfOptions → List FieldValue
dense_feature options = if options.usedense then bytes_field 4 (codes "DenseNodes") ∷ [] else []

-- a header block: the features that a reader needs, which are the schema and, where they are used, dense nodes
abbrev pub header_fields : PbfOptions → List FieldValue
header_fields options = bytes_field 4 (codes "OsmSchema-V0.6") ∷ dense_feature options

-- the bytes of a header block
abbrev pub header_bytes : PbfOptions → List ℕ
header_bytes options = written_message (header_fields options)

-- whether entities of a kind are written densely: nodes are, where the options say so
abbrev pub is_dense : PbfOptions → Kind → Bool
is_dense options OfNode = options.usedense
is_dense options OfWay = false
is_dense options OfRelation = false

-- the group of a run: one message of dense nodes, or one of each entity
abbrev pub group_fields : Bool → PbfOptions → List Numbered → List FieldValue
group_fields dense options run =
    if dense
    then bytes_field 2 (written_message (dense_fields options run)) ∷ []
    else map (entity_field options) run

-- the granularity; none where it is 100, which a reader takes where none is given
abbrev pub granularity_field : ℕ → List FieldValue
granularity_field granularity = if granularity == 100 then [] else number_field 17 granularity ∷ []

-- the block of a run by its string table: the table, one group, and the granularity
abbrev pub block_fields : PbfOptions → Kind → List (List ℕ) → List EntityValue → List FieldValue
block_fields options kind table run =
    bytes_field 1 (written_message (map (bytes_field 1) table))
    ∷ bytes_field 2
    (written_message (group_fields (is_dense options kind) options (map (with_numbers options table) run)))
    ∷ granularity_field options.granularity

-- the bytes of the block of a run of this kind
abbrev pub block_bytes : PbfOptions → Kind → List EntityValue → List ℕ
block_bytes options kind run = written_message (block_fields options kind (table_of options run) run)

-- the bytes of the block of a run, whose kind is that of its first entity
unfoldable pub run_bytes : PbfOptions → List EntityValue → List ℕ
run_bytes options [] = []
run_bytes options (entity ∷ more) = block_bytes options (kind_of entity.body) (entity ∷ more)
