use Rattle.std.proofs.Common.{◌∙◌, sym}
use Rattle.osm_block_read.specs.Seen.{entry_seen}
use Rattle.osm_block_read.proofs.UsualLemmas.{usual-light}
use Rattle.osm_block_read.proofs.setting.Setting.is_heavy.Goals as goal

pub returns-then-is_small_body : goal.returns-then-is_small_body
returns-then-is_small_body c =
    sym
    (usual-light c.args.self.now (entry_seen c.args.entry.now) (sym c.requires ∙ c.if-usual.true)
    (sym c.is_small_body.ensures ∙ c.if-is_small_body.true))
