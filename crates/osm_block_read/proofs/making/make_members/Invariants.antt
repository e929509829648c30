use Rattle.std.proofs.Common.{◌≡◌, map, take}
use Rattle.osm_block_read.specs.Entries.{entry_member}
use Rattle.osm_block_read.proofs.making.make_members.Given as goal

abbrev pub invariant-loop-member : goal.invariant-loop-member
invariant-loop-member l = l.made ≡ map (entry_member l.setting) (take l.member-index l.members)
