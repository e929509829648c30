use Rattle.osm_opl_line.proofs.SettlingLemmas.{opl_reading-prefix}
use Rattle.osm_opl_line.proofs.laws.prefixes_come_before.Goals as goal

pub returns : goal.returns
returns c = opl_reading-prefix
