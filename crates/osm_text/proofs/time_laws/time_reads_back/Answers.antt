use Rattle.osm_text.proofs.TimeLemmas.{time-time_text}
use Rattle.osm_text.proofs.time_laws.time_reads_back.Goals as goal

pub returns : goal.returns
returns c = time-time_text
