use Rattle.osm_blob.proofs.WrittenLemmas.{written_frame-reads}
use Rattle.osm_blob.proofs.laws.written_frames_read_back.Goals as goal

pub returns : goal.returns
returns c = written_frame-reads
