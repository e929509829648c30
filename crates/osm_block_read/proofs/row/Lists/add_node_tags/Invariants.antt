use Rattle.std.proofs.Common.{◌≡◌, ◌-◌, length, map}
use Rattle.osm_wire.specs.Integers.{int32}
use Rattle.osm_block_read.proofs.TagLemmas.{IsNodeOpen}
use Rattle.osm_block_read.proofs.row.Lists.add_node_tags.Given as goal

abbrev pub invariant-loop-at : goal.invariant-loop-at
invariant-loop-at l = record {
  open_node : IsNodeOpen l.initial.self.tags.items l.self.tags.items (map int32 l.codes) l.from l.at;
  refs : l.self.refs ≡ l.initial.self.refs;
  members : l.self.members ≡ l.initial.self.members;
}

abbrev pub decreases-loop-at : goal.decreases-loop-at
decreases-loop-at l = length l.codes - l.at
