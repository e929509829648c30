use Rattle.std.proofs.Common.{◌≡◌, ◌++◌, drop, map, pos}
use Rattle.osm_wire.specs.Integers.{int32}
use Rattle.osm_block_read.specs.Plain.{entry_members}
use Rattle.osm_block_read.proofs.ListLemmas.{ids_from}
use Rattle.osm_block_read.proofs.row.Lists.add_members.Given as goal

abbrev pub invariant-loop-at : goal.invariant-loop-at
invariant-loop-at l = record {
  added : l.self.members.items
      ++ entry_members (map int32 (drop l.at l.kinds)) (ids_from l.id (drop l.at l.ids)) (map int32 (drop l.at l.roles))
      ≡ l.initial.self.members.items ++ entry_members (map int32 l.kinds) (ids_from (pos 0) l.ids) (map int32 l.roles);
  tags : l.self.tags ≡ l.initial.self.tags;
  refs : l.self.refs ≡ l.initial.self.refs;
}
