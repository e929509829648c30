use Rattle.std.proofs.Common.{take}
use Rattle.std.specs.Prelude.{All}
use Rattle.osm_entity.specs.Writable.{IsMemberText}
use Rattle.osm_entity.proofs.holding.hold_members.Given as goal

abbrev pub invariant-loop-member : goal.invariant-loop-member
invariant-loop-member l = All IsMemberText (take l.member-index l.members)
