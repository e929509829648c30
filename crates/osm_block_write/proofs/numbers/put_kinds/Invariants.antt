use Rattle.std.proofs.Common.{◌≡◌, take}
use Rattle.std.specs.List.{flat_map}
use Rattle.osm_entity.specs.Keys.{kind_rank}
use Rattle.osm_wire.specs.Written.{shortest_varint}
use Rattle.osm_block_write.proofs.numbers.put_kinds.Given as goal

abbrev pub invariant-loop-member : goal.invariant-loop-member
invariant-loop-member l =
    l.room ≡ flat_map (λ m. shortest_varint (kind_rank m.kind)) (take l.member-index l.members)
