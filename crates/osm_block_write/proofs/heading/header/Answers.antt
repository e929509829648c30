use Rattle.std.proofs.Common.{◌++◌, ap, ◌∙◌}
use Rattle.std.specs.Prelude.{codes}
use Rattle.osm_wire.specs.Written.{written_field, written_message}
use Rattle.osm_block_write.specs.Block.{dense_feature}
use Rattle.osm_block_write.specs.Columns.{bytes_field}
use Rattle.osm_block_write.proofs.heading.header.Goals as goal

pub returns : goal.returns
returns c =
    c.in_ok-put_dense.ensures.ok
    ∙ ap (λ o. o ++ written_message (dense_feature c.args.options.now))
    (c.in_ok-put_bytes.ensures.ok
    ∙ ap (λ o. o ++ written_field (bytes_field 4 (codes "OsmSchema-V0.6"))) c.new-block.ensures)
