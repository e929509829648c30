-- The block of what was taken is the block of the run.
use Rattle.std.proofs.Common.{◌≡◌, ℕ, List, [], ◌∷◌, ◌++◌, map, true, false, refl, sym, ap, ◌∙◌}
use Rattle.std.specs.Prelude.{Bool, ◌||◌}
use Rattle.std.specs.List.{flat_map, list_any}
use Rattle.std.proofs.lemmas.Bool.{false≢true}
use Rattle.std.proofs.lemmas.Simd.{map-map}
use Rattle.osm_entity.specs.Entities.{EntityValue}
use Rattle.osm_entity.specs.declared.kind.Kind.{Kind}
use Rattle.osm_wire.specs.Written.{packed, written_message}
use Rattle.osm_block_write.specs.declared.options.PbfOptions.{PbfOptions}
use Rattle.osm_block_write.specs.Block.{block_bytes, granularity_field, group_fields, is_dense}
use Rattle.osm_block_write.specs.Columns.{bytes_field, packed_field}
use Rattle.osm_block_write.specs.Messages.{dense_fields, dense_info_fields, has_tags, keys_vals, keys_vals_field}
use Rattle.osm_block_write.specs.Numbered.{Numbered, NumberedTag, with_numbers}
use Rattle.osm_block_write.specs.Tables.{table_of}
use Rattle.osm_block_write.specs.Taking.{block_of_taken, dense_of_rows, group_of_taken, info_of_rows, row_of, tags_packed, taken_by, taken_of, wanted_field}

-- the metadata of rows is that of their nodes
info_of_rows-of : (options : PbfOptions) (nodes : List Numbered) →
    info_of_rows (map (row_of options) nodes) ≡ dense_info_fields nodes
info_of_rows-of options nodes = simp map-map

-- tags that are packed are some
keys_vals-some : (tags : List NumberedTag) (rest : List ℕ) →
    bytes_field 10 (packed (keys_vals tags ++ rest)) ∷ [] ≡ packed_field 10 (keys_vals tags ++ rest)
keys_vals-some [] rest = refl
keys_vals-some (tag ∷ tags) rest = refl

-- the tags of nodes, by whether a node has any
wanted-tags : (nodes : List Numbered) (tagged : Bool) → list_any (λ n. has_tags n.entity) nodes ≡ tagged →
    wanted_field tagged 10 (tags_packed nodes) ≡ keys_vals_field nodes
wanted-tags nodes false is = rw is refl
wanted-tags [] true is = absurd (false≢true is)
wanted-tags (n ∷ nodes) true is =
    rw is (keys_vals-some n.tags (flat_map (λ n. keys_vals n.tags) nodes))

-- dense nodes by their rows and tags are the dense nodes
dense_of_rows-of : (options : PbfOptions) (nodes : List Numbered) →
    dense_of_rows options (map (row_of options) nodes) (list_any (λ n. has_tags n.entity) nodes) (tags_packed nodes)
    ≡ dense_fields options nodes
dense_of_rows-of options nodes =
    let tags = wanted-tags nodes (list_any (λ n. has_tags n.entity) nodes) refl in
    rw (info_of_rows-of options nodes, tags) (simp map-map)

-- whether an entity has tags stays where its texts get numbers
has_tags-with_numbers : (options : PbfOptions) (table : List (List ℕ)) (run : List EntityValue) →
    list_any (λ n. has_tags n.entity) (map (with_numbers options table) run) ≡ list_any has_tags run
has_tags-with_numbers options table [] = refl
has_tags-with_numbers options table (e ∷ run) = ap (λ b. has_tags e || b) (has_tags-with_numbers options table run)

-- the group of what was taken is that of the run
group_of_taken-of : (dense : Bool) (options : PbfOptions) (table : List (List ℕ)) (run : List Numbered) →
    group_of_taken dense options (taken_by dense options table run) (list_any (λ n. has_tags n.entity) run)
    ≡ written_message (group_fields dense options run)
group_of_taken-of true options table run =
    ap (λ fields. written_message (bytes_field 2 (written_message fields) ∷ [])) (dense_of_rows-of options run)
group_of_taken-of false options table run = refl

-- the block of what was taken of a run is the block of the run
pub block_of_taken-of : (options : PbfOptions) (kind : Kind) (run : List EntityValue) →
    block_of_taken options kind (taken_of options kind run) (list_any has_tags run) ≡ block_bytes options kind run
block_of_taken-of options kind run =
    let table = table_of options run in
    let nodes = map (with_numbers options table) run in
    let dense = is_dense options kind in
    ap (λ group. written_message
    (bytes_field 1 (written_message (map (bytes_field 1) table)) ∷ bytes_field 2 group
    ∷ granularity_field options.granularity))
    (ap (group_of_taken dense options (taken_by dense options table nodes))
    (sym (has_tags-with_numbers options table run))
    ∙ group_of_taken-of dense options table nodes)
