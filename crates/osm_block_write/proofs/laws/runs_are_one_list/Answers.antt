use Rattle.osm_block_write.proofs.RunsLemmas.{exists, only, runs_of-push, written_runs-prefix}
use Rattle.osm_block_write.proofs.laws.runs_are_one_list.Goals as goal

pub returns-clause-exists : goal.returns-clause-exists
returns-clause-exists c = exists

pub returns-clause-only : goal.returns-clause-only
returns-clause-only c = only

pub returns-clause-grows : goal.returns-clause-grows
returns-clause-grows c = runs_of-push

pub returns-clause-before : goal.returns-clause-before
returns-clause-before c = written_runs-prefix
