use Rattle.std.proofs.Common.{◌≡◌, ◌≤◌, None, length}
use Rattle.osm_wire.specs.Entries.{all_bytes}
use Rattle.osm_wire.specs.Messages.{good_front}
use Rattle.osm_block_read.proofs.message.Entries.next.Given as goal

abbrev pub invariant-loop-field : goal.invariant-loop-field
invariant-loop-field l = record {
  number : l.self-inside.number ≡ l.initial.self-inside.number;
  entries : all_bytes l.self-inside.number (good_front l.self-inside.fields).items
      ≡ all_bytes l.initial.self-inside.number (good_front l.initial.self-inside.fields).items;
  fewer : length (good_front l.self-inside.fields).items ≤ length (good_front l.initial.self-inside.fields).items;
  fine : (good_front l.self-inside.fields).fault ≡ None;
}

abbrev pub decreases-loop-field : goal.decreases-loop-field
decreases-loop-field l = length l.self-inside.fields
