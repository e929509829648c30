use Rattle.std.proofs.Common.{All, arith, rules, subst}
use Rattle.std.proofs.lemmas.List.{take_all}
use Rattle.std.proofs.lemmas.List.Elements.{All-more}
use Rattle.osm_entity.specs.Writable.{IsMemberText}
use Rattle.osm_entity.proofs.holding.hold_members.Goals as goal

pub loop-member-preserved : goal.loop-member-preserved
loop-member-preserved c =
    All-more IsMemberText c.args.members.now c.loop-member.member-index c.member-item.result (omega arith)
    c.loop-member.invariant
    (subst IsMemberText c.member-item.is (record { id = search rules; role = c.as_slice-role.ensures.utf8 }))

pub returns : goal.returns
returns c =
    subst (All IsMemberText) (take_all c.loop-member.member-index c.args.members.now (omega arith))
    c.loop-member.invariant
