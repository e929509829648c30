use Rattle.std.proofs.Common.{◌≡◌, ◌-◌, ◌^◌, map, min, take}
use Rattle.std.specs.Prelude.{sum_by}
use Rattle.osm_entity.specs.Entities.{member_weight}
use Rattle.osm_block_read.specs.Entries.{entry_member}
use Rattle.osm_block_read.proofs.setting.Setting.weight_of_members.Given as goal

abbrev pub invariant-loop-member : goal.invariant-loop-member
invariant-loop-member l = l.total ≡ min (sum_by member_weight
    (map (entry_member l.self) (take l.member-index l.members))) (2 ^ 64 - 1)
