use Rattle.std.proofs.Common.{◌≡◌, ◌++◌, drop}
use Rattle.osm_block_read.specs.Plain.{entry_tags}
use Rattle.osm_block_read.proofs.row.Lists.add_tags.Given as goal

abbrev pub invariant-loop-at : goal.invariant-loop-at
invariant-loop-at l = record {
  added : l.self.tags.items ++ entry_tags (drop l.at l.keys) (drop l.at l.values)
      ≡ l.initial.self.tags.items ++ entry_tags l.keys l.values;
  refs : l.self.refs ≡ l.initial.self.refs;
  members : l.self.members ≡ l.initial.self.members;
}
