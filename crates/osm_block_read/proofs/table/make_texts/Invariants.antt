use Rattle.std.proofs.Common.{◌≡◌, drop, map, take}
use Rattle.std.specs.List.{list_all}
use Rattle.std.specs.Str.{is_utf8}
use Rattle.osm_block_read.specs.Spans.{part_in}
use Rattle.osm_block_read.proofs.table.make_texts.Given as goal

abbrev pub invariant-loop-span : goal.invariant-loop-span
invariant-loop-span l = record {
  made : l.texts.items ≡ map (part_in l.raw) (take l.span-index l.spans);
  utf8 : list_all is_utf8 (map (part_in l.raw) (drop l.span-index l.spans))
      ≡ list_all is_utf8 (map (part_in l.raw) l.spans);
}
