use Rattle.std.proofs.Common.{◌∙◌, sym}
use Rattle.osm_block_read.proofs.UsualLemmas.{usual-indexes}
use Rattle.osm_block_read.proofs.setting.Setting.has_tags.Goals as goal

pub returns-then-usual : goal.returns-then-usual
returns-then-usual c =
    c.if-usual.true
    ∙ sym (usual-indexes c.args.self.now.texts c.args.tags.now (sym c.requires ∙ c.if-usual.true))
