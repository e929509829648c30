use Rattle.std.proofs.Common.{◌≡◌, ◌≤◌, ◌-◌, length, map}
use Rattle.osm_wire.specs.Integers.{int32}
use Rattle.osm_block_read.proofs.TagLemmas.{AreNodesAdded}
use Rattle.osm_block_read.proofs.row.Lists.add_dense_tags.Given as goal

abbrev pub invariant-loop-at : goal.invariant-loop-at
invariant-loop-at l = record {
  nodes : AreNodesAdded l.initial.self.tags.items l.self.tags.items l.spans.items (map int32 l.codes) l.at;
  within : l.at ≤ length l.codes;
  refs : l.self.refs ≡ l.initial.self.refs;
  members : l.self.members ≡ l.initial.self.members;
}

abbrev pub decreases-loop-at : goal.decreases-loop-at
decreases-loop-at l = length l.codes - l.at
