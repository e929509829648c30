use Rattle.std.proofs.Common.{◌≡◌, ◌++◌, drop, pos}
use Rattle.osm_block_read.proofs.ListLemmas.{ids_from}
use Rattle.osm_block_read.proofs.row.Lists.add_refs.Given as goal

abbrev pub invariant-loop-at : goal.invariant-loop-at
invariant-loop-at l = record {
  added : l.self.refs.items ++ ids_from l.last (drop l.at l.codes) ≡ l.initial.self.refs.items
      ++ ids_from (pos 0) l.codes;
  tags : l.self.tags ≡ l.initial.self.tags;
  members : l.self.members ≡ l.initial.self.members;
}
