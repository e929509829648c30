use Rattle.osm_opl.proofs.WrittenLemmas.{took_file, took_none, took_some, took_some-more}
use Rattle.osm_opl.proofs.laws.writers_put_files.Goals as goal

pub returns-clause-none : goal.returns-clause-none
returns-clause-none c = took_none

pub returns-clause-file : goal.returns-clause-file
returns-clause-file c = took_file

pub returns-clause-some : goal.returns-clause-some
returns-clause-some c = took_some

pub returns-clause-more : goal.returns-clause-more
returns-clause-more c = took_some-more
