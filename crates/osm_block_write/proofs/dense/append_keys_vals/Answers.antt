use Rattle.std.proofs.Common.{◌++◌, ap, ◌∙◌}
use Rattle.std.proofs.lemmas.Result.{on_ok_weaker}
use Rattle.osm_wire.specs.Written.{shortest_varint}
use Rattle.osm_block_write.specs.Numbered.{numbered_tag}
use Rattle.osm_block_write.proofs.PackingLemmas.{keys_vals-packed}
use Rattle.osm_block_write.proofs.dense.append_keys_vals.Goals as goal

pub returns-clause-ok : goal.returns-clause-ok
returns-clause-ok c =
    on_ok_weaker c.put_varint.result
    (λ is. is ∙ ap (λ o. o ++ shortest_varint 0) c.in_ok-append_tags.ensures.ok
    ∙ keys_vals-packed (numbered_tag c.args.texts.now) c.args.tags.now c.args.out.now) c.put_varint.ensures.ok
