use Rattle.std.proofs.Common.{◌≡◌, take}
use Rattle.std.specs.Prelude.{sum_by}
use Rattle.osm_entity.specs.Entities.{member_weight}
use Rattle.osm_entity.proofs.weighing.weight_of_members.Given as goal

abbrev pub invariant-loop-member : goal.invariant-loop-member
invariant-loop-member l = l.total ≡ sum_by member_weight (take l.member-index l.members)
