use Rattle.osm_text.proofs.DateLemmas.{date_after-numbered}
use Rattle.osm_text.proofs.time_laws.dates_have_their_numbers.Goals as goal

pub returns : goal.returns
returns c = λ n. (date_after-numbered n).value
