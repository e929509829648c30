use Rattle.osm_run.proofs.CleanLemmas.{clean_ends, clean_finish, clean_counts, clean_files}
use Rattle.osm_run.proofs.laws.clean_runs.Goals as goal

pub returns-clause-ends : goal.returns-clause-ends
returns-clause-ends c = clean_ends

pub returns-clause-whole : goal.returns-clause-whole
returns-clause-whole c k before after status run clean lawful = clean_finish k before after status run clean lawful

pub returns-clause-counts : goal.returns-clause-counts
returns-clause-counts c = clean_counts

pub returns-clause-files : goal.returns-clause-files
returns-clause-files c = clean_files
