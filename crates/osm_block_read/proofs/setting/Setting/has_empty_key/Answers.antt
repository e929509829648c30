use Rattle.std.proofs.Common.{◌∙◌, ap, not, sym}
use Rattle.osm_block_read.proofs.UsualLemmas.{usual-keys}
use Rattle.osm_block_read.proofs.setting.Setting.has_empty_key.Goals as goal

pub returns-else-not-usual : goal.returns-else-not-usual
returns-else-not-usual c =
    ap not c.if-not-usual.false
    ∙ sym (usual-keys c.args.self.now.texts c.args.tags.now (sym c.requires ∙ c.if-not-usual.false))
