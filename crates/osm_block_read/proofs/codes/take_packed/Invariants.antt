use Rattle.std.proofs.Common.{◌≡◌, ◌≤◌, ◌-◌, drop, length}
use Rattle.osm_wire.specs.Entries.{whole_pieces}
use Rattle.osm_wire.specs.Messages.{packed_pieces}
use Rattle.osm_block_read.specs.Told.{behind}
use Rattle.osm_block_read.proofs.codes.take_packed.Given as goal

abbrev pub invariant-loop-at : goal.invariant-loop-at
invariant-loop-at l = record {
  codes : behind l.codes.items (whole_pieces (packed_pieces (drop l.at l.packed)))
      ≡ behind l.initial.codes.items (whole_pieces (packed_pieces l.packed));
  within : l.at ≤ length l.packed;
}

abbrev pub decreases-loop-at : goal.decreases-loop-at
decreases-loop-at l = length l.packed - l.at
