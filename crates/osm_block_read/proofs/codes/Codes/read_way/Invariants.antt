use Rattle.std.proofs.Common.{◌≡◌, length}
use Rattle.std.specs.Option.{option_map}
use Rattle.osm_wire.specs.Entries.{◌>>=◌, whole_pieces}
use Rattle.osm_wire.specs.Messages.{good_front}
use Rattle.osm_block_read.specs.WayCodes.{way_behind, way_said}
use Rattle.osm_block_read.proofs.codes.Codes.read_way.Given as goal

abbrev pub invariant-loop-next : goal.invariant-loop-next
invariant-loop-next l =
    (whole_pieces (good_front l.fields)
    >>= way_behind l.id l.self.ids.items l.self.keys.items l.self.values.items (option_map (λ s. s.now) l.described))
    ≡ way_said l.message

abbrev pub decreases-loop-next : goal.decreases-loop-next
decreases-loop-next l = length l.fields
