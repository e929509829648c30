use Rattle.osm_pbf.proofs.ReadingLemmas.{pbf_reading-prefix}
use Rattle.osm_pbf.proofs.reading_laws.pbf_prefixes_come_before.Goals as goal

pub returns : goal.returns
returns c = pbf_reading-prefix
