use Rattle.std.proofs.Common.{◌≡◌, take}
use Rattle.std.specs.List.{flat_map}
use Rattle.osm_wire.specs.Written.{shortest_varint}
use Rattle.osm_block_write.specs.Tables.{text_number}
use Rattle.osm_block_write.proofs.numbers.put_keys.Given as goal

abbrev pub invariant-loop-tag : goal.invariant-loop-tag
invariant-loop-tag l =
    l.room ≡ flat_map (λ t. shortest_varint (text_number l.texts t.key)) (take l.tag-index l.tags)
