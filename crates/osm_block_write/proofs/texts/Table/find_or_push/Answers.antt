use Rattle.std.proofs.Common.{sym, ◌∙◌}
use Rattle.osm_block_write.proofs.TablesLemmas.{with_text-new}
use Rattle.osm_block_write.proofs.TextsLemmas.{number-absent, number-found, table-found, table-lacks}
use Rattle.osm_block_write.proofs.texts.Table.find_or_push.Goals as goal

pub returns-in-Some-clause-number : goal.returns-in-Some-clause-number
returns-in-Some-clause-number c =
    number-found (λ v. v.items) c.self.inside.texts.keys c.args.self.now c.args.text.now c.in-Some.number
    c.self.view_is c.in-Some.ensures.index

pub returns-in-Some-clause-ok : goal.returns-in-Some-clause-ok
returns-in-Some-clause-ok c =
    table-found (λ v. v.items) c.self.inside.texts.keys c.args.self.now c.args.text.now c.self.view_is
    c.in-Some.ensures.found

pub push-requires : goal.push-requires
push-requires c =
    table-lacks (λ v. v.items) c.self.inside.texts.keys c.args.self.now c.args.text.now c.self.view_is
    c.in-None.ensures.found

pub returns-in_ok-push-in-None-clause-number : goal.returns-in_ok-push-in-None-clause-number
returns-in_ok-push-in-None-clause-number c =
    c.len-number.ensures.len
    ∙ number-absent (λ v. v.items) c.self.inside.texts.keys c.args.self.now c.args.text.now c.self.view_is
    c.in-None.ensures.index

pub returns-in_ok-push-in-None-clause-ok : goal.returns-in_ok-push-in-None-clause-ok
returns-in_ok-push-in-None-clause-ok c =
    c.in_ok-push-in-None.ensures.ok
    ∙ sym
    (with_text-new c.args.self.now c.args.text.now
    (table-lacks (λ v. v.items) c.self.inside.texts.keys c.args.self.now c.args.text.now c.self.view_is
    c.in-None.ensures.found))
