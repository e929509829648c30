use Rattle.std.proofs.Common.{◌≡◌, None, length}
use Rattle.osm_wire.specs.Entries.{repeated}
use Rattle.osm_wire.specs.Messages.{good_front}
use Rattle.osm_block_read.specs.Told.{behind}
use Rattle.osm_block_read.proofs.codes.read_codes.Given as goal

abbrev pub invariant-loop-field : goal.invariant-loop-field
invariant-loop-field l = record {
  codes : behind l.codes.items (repeated l.number (good_front l.fields).items) ≡ repeated l.number l.message;
  fine : (good_front l.fields).fault ≡ None;
}

abbrev pub decreases-loop-field : goal.decreases-loop-field
decreases-loop-field l = length l.fields
