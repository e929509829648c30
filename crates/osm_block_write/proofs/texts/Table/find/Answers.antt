use Rattle.std.proofs.Common.{◌∙◌}
use Rattle.osm_block_write.proofs.TextsLemmas.{number-absent, number-found}
use Rattle.osm_block_write.proofs.texts.Table.find.Goals as goal

pub returns-in-Some : goal.returns-in-Some
returns-in-Some c =
    number-found (λ v. v.items) c.self.inside.texts.keys c.args.self.now c.args.text.now c.in-Some.number
    c.self.view_is c.in-Some.ensures.index

pub returns-in-None : goal.returns-in-None
returns-in-None c =
    c.len.ensures.len
    ∙ number-absent (λ v. v.items) c.self.inside.texts.keys c.args.self.now c.args.text.now c.self.view_is
    c.in-None.ensures.index
