use Rattle.std.proofs.Common.{◌≡◌, length}
use Rattle.osm_wire.specs.Entries.{◌>>=◌, all_said, messages}
use Rattle.osm_block_read.specs.Content.{entry_said, number_of}
use Rattle.osm_block_read.specs.Rows.{AreRowsIn, entries_of}
use Rattle.osm_block_read.specs.Told.{behind, bytes_to_come}
use Rattle.osm_block_read.proofs.row.Rows.read_entries.Given as goal

abbrev pub invariant-loop-message : goal.invariant-loop-message
invariant-loop-message l = record {
  within : AreRowsIn l.self;
  entries : behind (entries_of l.self) (bytes_to_come l.entries >>= all_said (entry_said l.kind))
      ≡ behind (entries_of l.initial.self) (messages (entry_said l.kind) (number_of l.kind) l.group);
}

abbrev pub decreases-loop-message : goal.decreases-loop-message
decreases-loop-message l = length l.entries.fields
