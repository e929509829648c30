use Rattle.osm_pbf.proofs.ReadingLemmas.{pbf_reading-settled}
use Rattle.osm_pbf.proofs.reading_laws.bad_frames_settle.Goals as goal

pub returns : goal.returns
returns c = pbf_reading-settled
