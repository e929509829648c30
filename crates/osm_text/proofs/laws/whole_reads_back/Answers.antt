use Rattle.osm_text.proofs.ReadBackLemmas.{whole-signed_decimal}
use Rattle.osm_text.proofs.laws.whole_reads_back.Goals as goal

pub returns : goal.returns
returns c = whole-signed_decimal
