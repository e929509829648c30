use Rattle.osm_text.proofs.EscapeLawLemmas.{unescaped-escaped}
use Rattle.osm_text.proofs.escape_laws.escaped_reads_back.Goals as goal

pub returns : goal.returns
returns c = unescaped-escaped
