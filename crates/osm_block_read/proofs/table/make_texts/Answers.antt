use Rattle.std.proofs.Common.{◌≡◌, true, arith}
use Rattle.std.specs.Prelude.{slice_index_or}
use Rattle.std.specs.Str.{is_utf8}
use Rattle.std.proofs.lemmas.Str.{IsUtf8-from_is_utf8}
use Rattle.osm_block_read.specs.Spans.{part_in}
use Rattle.osm_block_read.specs.declared.span.Span.{Span}
use Rattle.osm_block_read.proofs.table.make_texts.Goals as goal

pub from_utf8-requires : goal.from_utf8-requires
from_utf8-requires c =
    let raw = c.args.raw.now in
    let span : Span = slice_index_or c.args.spans.now c.loop-span.span-index record { start = 0; end = 0 } in
    let good : is_utf8 (part_in raw span) ≡ true = grind (arith, c.is_text.ensures, c.if-not-is_text.false) in
    IsUtf8-from_is_utf8 (part_in raw span) good
