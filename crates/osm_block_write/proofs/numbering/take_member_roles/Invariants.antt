use Rattle.std.proofs.Common.{◌≡◌, drop, map}
use Rattle.osm_entity.specs.Prefixes.{IsPrefix}
use Rattle.osm_block_write.specs.Tables.{with_texts}
use Rattle.osm_block_write.proofs.numbering.take_member_roles.Given as goal

abbrev pub invariant-loop-member : goal.invariant-loop-member
invariant-loop-member l =
    (with_texts l.texts (map (λ m. m.role) (drop l.member-index l.members))
    ≡ with_texts l.fn.texts (map (λ m. m.role) l.members))
    × IsPrefix l.fn.texts l.texts
