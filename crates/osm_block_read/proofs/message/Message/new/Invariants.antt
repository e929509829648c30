use Rattle.std.proofs.Common.{◌≡◌, length}
use Rattle.osm_wire.specs.Messages.{good_front}
use Rattle.osm_block_read.proofs.message.Message.new.Given as goal

abbrev pub invariant-loop : goal.invariant-loop
invariant-loop l = (good_front l.fields).fault ≡ (good_front l.bytes).fault

abbrev pub decreases-loop : goal.decreases-loop
decreases-loop l = length l.fields
