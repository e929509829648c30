use Rattle.std.proofs.Common.{◌≡◌, length}
use Rattle.osm_wire.specs.Entries.{◌>>=◌, whole_pieces}
use Rattle.osm_wire.specs.Messages.{good_front}
use Rattle.osm_block_read.specs.InfoCodes.{info_behind}
use Rattle.osm_block_read.specs.Plain.{info}
use Rattle.osm_block_read.proofs.plain.read_info.Given as goal

abbrev pub invariant-loop-next : goal.invariant-loop-next
invariant-loop-next l = (whole_pieces (good_front l.fields) >>= info_behind l.codes) ≡ info l.message

abbrev pub decreases-loop-next : goal.decreases-loop-next
decreases-loop-next l = length l.fields
