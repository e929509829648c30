use Rattle.std.proofs.Common.{◌≡◌, take}
use Rattle.std.specs.List.{flat_map}
use Rattle.osm_wire.specs.Written.{written_field}
use Rattle.osm_block_write.specs.Columns.{bytes_field}
use Rattle.osm_block_write.proofs.block.put_table.Given as goal

abbrev pub invariant-loop-text : goal.invariant-loop-text
invariant-loop-text l =
    l.room ≡ flat_map (λ text. written_field (bytes_field 1 text.items)) (take l.text-index l.text-items)
