use Rattle.osm_machine.proofs.ReadingFileLemmas.{limited-prefix}
use Rattle.osm_machine.proofs.reading_laws.longer_readings_go_on.Goals as goal

pub returns : goal.returns
returns c = limited-prefix
