use Rattle.osm_run.proofs.CauseOfLemmas.{fault_cause}
use Rattle.osm_run.proofs.EntryLemmas.{unclean_cause}
use Rattle.osm_run.proofs.StayLemmas.{entries_tell}
use Rattle.osm_run.proofs.laws.faults_have_causes.Goals as goal

pub returns-clause-fault : goal.returns-clause-fault
returns-clause-fault c = fault_cause

pub returns-clause-unclean : goal.returns-clause-unclean
returns-clause-unclean c = unclean_cause

pub returns-clause-entries : goal.returns-clause-entries
returns-clause-entries c = entries_tell
