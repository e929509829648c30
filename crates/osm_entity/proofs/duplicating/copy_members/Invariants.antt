use Rattle.std.proofs.Common.{◌≡◌, take}
use Rattle.osm_entity.proofs.duplicating.copy_members.Given as goal

abbrev pub invariant-loop-member : goal.invariant-loop-member
invariant-loop-member l = l.copy ≡ take l.member-index l.members
