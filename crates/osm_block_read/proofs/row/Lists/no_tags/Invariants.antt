use Rattle.std.proofs.Common.{◌≡◌, [], length, map, replicate}
use Rattle.std.specs.Prelude.{All}
use Rattle.osm_block_read.specs.Spans.{IsSpanIn, part_in}
use Rattle.osm_block_read.proofs.row.Lists.no_tags.Given as goal

abbrev pub invariant-loop-node : goal.invariant-loop-node
invariant-loop-node l = record {
  within : All (IsSpanIn (length l.self.tags.items)) l.spans.items;
  parts : map (part_in l.self.tags.items) l.spans.items ≡ replicate l._node [];
}
