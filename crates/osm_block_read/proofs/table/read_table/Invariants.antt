use Rattle.std.proofs.Common.{◌≡◌, length, map}
use Rattle.std.specs.Prelude.{All}
use Rattle.osm_block_read.specs.Spans.{IsSpanIn, part_in}
use Rattle.osm_block_read.specs.Table.{IsWellRest, entries_left}
use Rattle.osm_block_read.specs.Told.{behind}
use Rattle.osm_block_read.proofs.table.read_table.Given as goal

abbrev pub invariant-loop-span : goal.invariant-loop-span
invariant-loop-span l = record {
  rest : IsWellRest l.begin l.fields;
  within : All (IsSpanIn (length l.begin)) l.spans.items;
  entries : behind (map (part_in l.begin) l.spans.items) (entries_left 1 l.fields) ≡ entries_left 1 l.initial.fields;
}

abbrev pub decreases-loop-span : goal.decreases-loop-span
decreases-loop-span l = length l.fields
