use Rattle.osm_text.proofs.NanoLemmas.{nano-nano_text}
use Rattle.osm_text.proofs.laws.nano_reads_back.Goals as goal

pub returns : goal.returns
returns c = nano-nano_text
