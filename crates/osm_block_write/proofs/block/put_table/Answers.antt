use Rattle.std.proofs.Common.{◌++◌, ap, ◌∙◌}
use Rattle.std.proofs.lemmas.Result.{on_ok_weaker}
use Rattle.osm_wire.specs.Written.{written_field}
use Rattle.osm_block_write.specs.Columns.{bytes_field}
use Rattle.osm_block_write.proofs.TextsLemmas.{table-loop}
use Rattle.osm_block_write.proofs.block.put_table.Goals as goal

pub returns : goal.returns
returns c = record {
  ok = on_ok_weaker c.put_bytes-2.result
      (λ is. is
      ∙ ap (λ bytes. c.args.out.now ++ written_field (bytes_field 1 bytes))
      (c.as_slice-2.ensures
      ∙ table-loop (λ v. v.items) c.as_slice-text-items.result.now c.loop-text.text-index c.loop-text.room
      c.args.texts.now c.loop-text-test.false c.as_slice-text-items.ensures c.loop-text.invariant))
      c.put_bytes-2.ensures.ok;
}
