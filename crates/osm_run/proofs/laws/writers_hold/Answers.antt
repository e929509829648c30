use Rattle.osm_run.proofs.HoldLemmas.{writers_hold_bytes, writers_hold_prefixes}
use Rattle.osm_run.proofs.laws.writers_hold.Goals as goal

pub returns-clause-bytes : goal.returns-clause-bytes
returns-clause-bytes c = writers_hold_bytes

pub returns-clause-prefix : goal.returns-clause-prefix
returns-clause-prefix c = writers_hold_prefixes
