use Rattle.std.proofs.Common.{map, ap, sym, ◌∙◌}
use Rattle.std.proofs.lemmas.Simd.{map-map}
use Rattle.osm_wire.specs.Written.{packed}
use Rattle.osm_block_write.specs.Numbered.{numbered_tag}
use Rattle.osm_block_write.specs.Tables.{text_number}
use Rattle.osm_block_write.proofs.PackingLemmas.{packed-loop}
use Rattle.osm_block_write.proofs.numbers.put_values.Goals as goal

pub returns : goal.returns
returns c = record {
  ok = c.put_packed.ensures.ok (map (λ t. t.value) (map (numbered_tag c.args.texts.now) c.args.tags.now))
      (c.as_slice-2.ensures
      ∙ packed-loop (λ t. text_number c.args.texts.now t.value) c.args.tags.now c.loop-tag.tag-index c.loop-tag.room
      c.loop-tag-test.false c.loop-tag.invariant
      ∙ ap packed (sym (map-map (λ t. t.value) (numbered_tag c.args.texts.now) c.args.tags.now)));
}
