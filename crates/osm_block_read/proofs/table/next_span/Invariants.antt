use Rattle.std.proofs.Common.{◌≡◌, ◌≤◌, length}
use Rattle.osm_block_read.specs.Table.{IsWellRest, entries_left}
use Rattle.osm_block_read.proofs.table.next_span.Given as goal

abbrev pub invariant-loop-field : goal.invariant-loop-field
invariant-loop-field l = record {
  rest : IsWellRest l.bytes l.fields;
  entries : entries_left l.number l.initial.fields ≡ entries_left l.number l.fields;
  fewer : length l.fields ≤ length l.initial.fields;
}

abbrev pub decreases-loop-field : goal.decreases-loop-field
decreases-loop-field l = length l.fields
