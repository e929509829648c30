use Rattle.std.proofs.Common.{◌≡◌, None, length}
use Rattle.osm_wire.specs.Entries.{number_given}
use Rattle.osm_wire.specs.Messages.{good_front}
use Rattle.osm_block_read.proofs.message.Message.last.Given as goal

abbrev pub invariant-loop-field : goal.invariant-loop-field
invariant-loop-field l = record {
  said : number_given l.last l.number (good_front l.fields).items ≡ number_given None l.number l.self;
  fine : (good_front l.fields).fault ≡ None;
}

abbrev pub decreases-loop-field : goal.decreases-loop-field
decreases-loop-field l = length l.fields
