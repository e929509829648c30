use Rattle.osm_block_write.proofs.TextsLemmas.{table-pushed}
use Rattle.osm_block_write.proofs.texts.Table.push.Goals as goal

pub returns-clause-ok : goal.returns-clause-ok
returns-clause-ok c =
    table-pushed (λ v. v.items) c.self.inside.texts.keys c.insert_full.new.self.keys c.in-Ok.copy c.args.self.now
    c.args.text.now c.self.view_is c.requires c.in-Ok.ensures.items c.in-Ok-insert_full.ensures.keys
