use Rattle.osm_pbf.proofs.VerdictLemmas.{clean_rightly, read_rightly, too_long_rightly}
use Rattle.osm_pbf.proofs.reading_laws.pbf_readers_blame_their_sources_rightly.Goals as goal

pub returns-clause-clean : goal.returns-clause-clean
returns-clause-clean c = clean_rightly

pub returns-clause-read : goal.returns-clause-read
returns-clause-read c = read_rightly

pub returns-clause-too_long : goal.returns-clause-too_long
returns-clause-too_long c = too_long_rightly
