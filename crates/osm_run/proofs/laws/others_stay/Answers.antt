use Rattle.osm_run.proofs.StayLemmas.{other_files, other_counts}
use Rattle.osm_run.proofs.laws.others_stay.Goals as goal

pub returns-clause-files : goal.returns-clause-files
returns-clause-files c = other_files

pub returns-clause-counts : goal.returns-clause-counts
returns-clause-counts c = other_counts
