use Rattle.osm_opl_line.proofs.CuttingLemmas.{opl_line-long}
use Rattle.osm_opl_line.proofs.laws.long_lines_are_bad.Goals as goal

pub returns : goal.returns
returns c = opl_line-long
