use Rattle.std.proofs.Common.{map, ◌∙◌}
use Rattle.osm_entity.specs.Keys.{kind_rank}
use Rattle.osm_block_write.proofs.PackingLemmas.{packed-loop}
use Rattle.osm_block_write.proofs.numbers.put_kinds.Goals as goal

pub returns : goal.returns
returns c = record {
  ok = c.put_packed.ensures.ok (map (λ m. kind_rank m.kind) c.args.members.now)
      (c.as_slice.ensures
      ∙ packed-loop (λ m. kind_rank m.kind) c.args.members.now c.loop-member.member-index c.loop-member.room
      c.loop-member-test.false c.loop-member.invariant);
}
