use Rattle.std.proofs.Common.{◌≡◌, take}
use Rattle.std.specs.List.{flat_map}
use Rattle.osm_wire.specs.Written.{shortest_varint}
use Rattle.osm_block_write.specs.Tables.{text_number}
use Rattle.osm_block_write.proofs.numbers.put_roles.Given as goal

abbrev pub invariant-loop-member : goal.invariant-loop-member
invariant-loop-member l =
    l.room ≡ flat_map (λ m. shortest_varint (text_number l.texts m.role)) (take l.member-index l.members)
