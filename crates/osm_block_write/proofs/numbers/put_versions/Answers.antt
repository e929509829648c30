use Rattle.std.proofs.Common.{map, ◌∙◌}
use Rattle.osm_block_write.proofs.PackingLemmas.{packed-loop}
use Rattle.osm_block_write.proofs.numbers.put_versions.Goals as goal

pub returns : goal.returns
returns c = record {
  ok = c.put_packed.ensures.ok (map (λ row. row.version) c.args.rows.now)
      (c.as_slice.ensures
      ∙ packed-loop (λ row. row.version) c.args.rows.now c.loop-row.row-index c.loop-row.room
      c.loop-row-test.false c.loop-row.invariant);
}
