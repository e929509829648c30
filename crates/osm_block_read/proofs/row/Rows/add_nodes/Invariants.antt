use Rattle.std.proofs.Common.{◌≡◌, ◌++◌, map}
use Rattle.std.specs.List.{range_with_len}
use Rattle.osm_block_read.specs.Dense.{dense_entry_at}
use Rattle.osm_block_read.specs.DenseCodes.{AreSums, dense_of}
use Rattle.osm_block_read.specs.Rows.{AreRowsIn, entries_of}
use Rattle.osm_block_read.specs.Spans.{part_in}
use Rattle.osm_block_read.proofs.row.Rows.add_nodes.Given as goal

abbrev pub invariant-loop-at : goal.invariant-loop-at
invariant-loop-at l = record {
  within : AreRowsIn l.self;
  entries : entries_of l.self ≡ entries_of l.initial.self
      ++ map (dense_entry_at (dense_of l.codes) (map (part_in l.initial.self.lists.tags.items) l.spans))
      (range_with_len 0 l.at);
  lists : l.self.lists ≡ l.initial.self.lists;
  sums : AreSums l.codes l.at l.sums;
}
