use Rattle.std.proofs.Common.{ap, ◌∙◌}
use Rattle.std.specs.List.{flat_map}
use Rattle.osm_block_write.specs.Tables.{tag_texts, with_text, with_texts}
use Rattle.osm_block_write.proofs.ListLemmas.{begins-onward}
use Rattle.osm_block_write.proofs.TablesLemmas.{tags-next, with_text-begins_by}
use Rattle.osm_block_write.proofs.numbering.take_tags.Goals as goal

pub loop-tag-preserved : goal.loop-tag-preserved
loop-tag-preserved c =
    let old = c.args.texts.now in
    let table = c.loop-tag.texts in
    let one = c.number.new.self in
    let two = c.number-in-loop-tag.new.self in
    let key = c.in_ok-number.ensures.ok ∙ ap (with_text table) c.as_slice.ensures.value in
    let value = c.in_ok-number-2.ensures.ok ∙ ap (with_text one) c.as_slice-in-loop-tag.ensures.value in (
      tags-next table one two (with_texts old (flat_map tag_texts c.args.tags.now)) c.args.tags.now
          c.loop-tag.tag-index c.tag-item.result c.loop-tag-test.true c.tag-item.is key value c.loop-tag.invariant.0,
      begins-onward old one two
          (begins-onward old table one c.loop-tag.invariant.1 (with_text-begins_by table c.tag-item.result.key one key))
          (with_text-begins_by one c.tag-item.result.value two value),
    )
