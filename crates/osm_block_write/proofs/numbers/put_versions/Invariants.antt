use Rattle.std.proofs.Common.{◌≡◌, take}
use Rattle.std.specs.List.{flat_map}
use Rattle.osm_wire.specs.Written.{shortest_varint}
use Rattle.osm_block_write.proofs.numbers.put_versions.Given as goal

abbrev pub invariant-loop-row : goal.invariant-loop-row
invariant-loop-row l =
    l.room ≡ flat_map (λ row. shortest_varint row.version) (take l.row-index l.rows)
