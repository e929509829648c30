use Rattle.std.proofs.Common.{◌≡◌, length}
use Rattle.osm_wire.specs.Messages.{good_front}
use Rattle.osm_blob.specs.Messages.{header_said}
use Rattle.osm_blob.specs.MessagesSeen.{header_with}
use Rattle.osm_blob.proofs.messages.header_entries.Given as goal

abbrev pub invariant-loop-field : goal.invariant-loop-field
invariant-loop-field l = header_with l.entries (good_front l.fields) ≡ header_said l.bytes

abbrev pub decreases-loop-field : goal.decreases-loop-field
decreases-loop-field l = length l.fields
