use Rattle.std.proofs.Common.{◌≡◌, length}
use Rattle.std.specs.Option.{option_map}
use Rattle.osm_wire.specs.Entries.{◌>>=◌, all_said, messages}
use Rattle.osm_block_read.specs.Block.{all_entries, group, joined}
use Rattle.osm_block_read.specs.Content.{entries_read}
use Rattle.osm_block_read.specs.Rows.{AreRowsIn}
use Rattle.osm_block_read.specs.Told.{bytes_to_come}
use Rattle.osm_block_read.proofs.content.Content.read_groups.Given as goal

abbrev pub invariant-loop-message : goal.invariant-loop-message
invariant-loop-message l = record {
  within : AreRowsIn l.self.rows;
  entries : option_map (λ gs. joined (entries_read l.self) (all_entries gs)) (bytes_to_come l.groups >>= all_said group)
      ≡ option_map (λ gs. joined (entries_read l.initial.self) (all_entries gs)) (messages group 2 l.fields);
  texts : l.self.texts ≡ l.initial.self.texts;
}

abbrev pub decreases-loop-message : goal.decreases-loop-message
decreases-loop-message l = length l.groups.fields
