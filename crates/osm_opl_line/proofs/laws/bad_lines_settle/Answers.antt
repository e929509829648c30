use Rattle.osm_opl_line.proofs.SettlingLemmas.{opl_reading-settled, opl_reading-settled_ended}
use Rattle.osm_opl_line.proofs.laws.bad_lines_settle.Goals as goal

pub returns-clause-cut : goal.returns-clause-cut
returns-clause-cut c = opl_reading-settled

pub returns-clause-ended : goal.returns-clause-ended
returns-clause-ended c = opl_reading-settled_ended
