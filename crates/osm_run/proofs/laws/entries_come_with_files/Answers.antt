use Rattle.osm_run.proofs.StayLemmas.{entries_or_none, entries_or_same}
use Rattle.osm_run.proofs.laws.entries_come_with_files.Goals as goal

pub returns-clause-entries : goal.returns-clause-entries
returns-clause-entries c = entries_or_none

pub returns-clause-files : goal.returns-clause-files
returns-clause-files c = entries_or_same
