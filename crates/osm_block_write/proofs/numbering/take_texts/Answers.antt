use Rattle.std.specs.List.{flat_map}
use Rattle.osm_block_write.specs.Tables.{tag_texts, user_texts}
use Rattle.osm_block_write.proofs.ListLemmas.{begins-onward}
use Rattle.osm_block_write.proofs.ResultLemmas.{on_err}
use Rattle.osm_block_write.proofs.TablesLemmas.{with_texts-begins_by}
use Rattle.osm_block_write.proofs.numbering.take_texts.Goals as goal

pub returns-in_err-take_roles-clause-err : goal.returns-in_err-take_roles-clause-err
returns-in_err-take_roles-clause-err c =
    let old = c.args.texts.now in
    let user = c.take_user.new.texts in
    let tags = c.take_tags.new.texts in
    on_err c.from_residual-in_err-take_roles.result
    (begins-onward old tags c.take_roles.new.texts
    (begins-onward old user tags
    (with_texts-begins_by old (user_texts c.args.options.now c.args.entity.now) user c.in_ok-user.ensures.ok)
    (with_texts-begins_by user (flat_map tag_texts c.as_slice.result.now) tags c.in_ok-take_tags.ensures.ok))
    c.in_err-take_roles.ensures.err)
