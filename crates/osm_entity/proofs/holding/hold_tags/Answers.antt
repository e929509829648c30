use Rattle.std.proofs.Common.{All, arith, subst}
use Rattle.std.proofs.lemmas.List.{take_all}
use Rattle.std.proofs.lemmas.List.Elements.{All-more}
use Rattle.osm_entity.specs.Writable.{IsTagText}
use Rattle.osm_entity.proofs.holding.hold_tags.Goals as goal

pub loop-tag-preserved : goal.loop-tag-preserved
loop-tag-preserved c =
    All-more IsTagText c.args.tags.now c.loop-tag.tag-index c.tag-item.result (omega arith) c.loop-tag.invariant
    (subst IsTagText c.tag-item.is
    (record { key = c.as_slice-key.ensures.utf8; value = c.as_slice-value.ensures.utf8 }))

pub returns : goal.returns
returns c =
    subst (All IsTagText) (take_all c.loop-tag.tag-index c.args.tags.now (omega arith)) c.loop-tag.invariant
