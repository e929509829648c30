use Rattle.std.proofs.Common.{map, ap, sym, ◌∙◌}
use Rattle.std.proofs.lemmas.Simd.{map-map}
use Rattle.osm_wire.specs.Written.{packed}
use Rattle.osm_block_write.specs.Tables.{text_number}
use Rattle.osm_block_write.proofs.PackingLemmas.{packed-loop}
use Rattle.osm_block_write.proofs.numbers.put_roles.Goals as goal

pub returns : goal.returns
returns c = record {
  ok = c.put_packed.ensures.ok (map (text_number c.args.texts.now) (map (λ m. m.role) c.args.members.now))
      (c.as_slice-2.ensures
      ∙ packed-loop (λ m. text_number c.args.texts.now m.role) c.args.members.now c.loop-member.member-index
      c.loop-member.room c.loop-member-test.false c.loop-member.invariant
      ∙ ap packed (sym (map-map (text_number c.args.texts.now) (λ m. m.role) c.args.members.now)));
}
