use Rattle.std.proofs.Common.{◌∙◌}
use Rattle.osm_block_write.specs.Tables.{texts_of}
use Rattle.osm_block_write.proofs.ResultLemmas.{on_err}
use Rattle.osm_block_write.proofs.TablesLemmas.{with_texts-begins_by}
use Rattle.osm_block_write.proofs.TakingLemmas.{user-kept}
use Rattle.osm_block_write.proofs.taken.append.Goals as goal

pub returns-in_err-append_keys_vals-clause-texts : goal.returns-in_err-append_keys_vals-clause-texts
returns-in_err-append_keys_vals-clause-texts c =
    on_err c.from_residual-in_err-append_keys_vals.result
    (with_texts-begins_by c.args.taken.now.texts (texts_of c.args.options.now c.args.entity.now)
    c.take_texts.new.texts c.in_ok-user.ensures.ok)

pub row_of_node-requires-clause-user : goal.row_of_node-requires-clause-user
row_of_node-requires-clause-user c =
    c.in_ok-user.ensures.user
    ∙ user-kept c.args.options.now c.args.taken.now.texts c.take_texts.new.texts c.args.entity.now
    c.in_ok-user.ensures.ok

pub append_entity-requires : goal.append_entity-requires
append_entity-requires c =
    c.in_ok-user.ensures.user
    ∙ user-kept c.args.options.now c.args.taken.now.texts c.take_texts.new.texts c.args.entity.now
    c.in_ok-user.ensures.ok

pub returns-in_ok-append_keys_vals-clause-texts : goal.returns-in_ok-append_keys_vals-clause-texts
returns-in_ok-append_keys_vals-clause-texts c =
    on_err c.push.result
    (with_texts-begins_by c.args.taken.now.texts (texts_of c.args.options.now c.args.entity.now)
    c.take_texts.new.texts c.in_ok-user.ensures.ok)

pub returns-else-is_dense-clause-texts : goal.returns-else-is_dense-clause-texts
returns-else-is_dense-clause-texts c =
    on_err c.append_entity.result
    (with_texts-begins_by c.args.taken.now.texts (texts_of c.args.options.now c.args.entity.now)
    c.take_texts.new.texts c.in_ok-user.ensures.ok)
