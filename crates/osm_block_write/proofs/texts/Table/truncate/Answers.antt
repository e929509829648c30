use Rattle.std.proofs.Common.{map, take, sym, ap, ◌∙◌}
use Rattle.std.proofs.lemmas.List.{take-map}
use Rattle.osm_block_write.proofs.texts.Table.truncate.Goals as goal

pub returns : goal.returns
returns c =
    ap (map (λ v. v.items)) c.truncate.ensures.keys
    ∙ sym (take-map (λ v. v.items) c.args.count c.self.inside.texts.keys) ∙ ap (take c.args.count) c.self.view_is
