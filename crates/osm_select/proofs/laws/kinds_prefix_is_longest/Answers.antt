use Rattle.osm_select.proofs.JudgedLemmas.{longest_prefix}
use Rattle.osm_select.proofs.laws.kinds_prefix_is_longest.Goals as goal

pub returns : goal.returns
returns c = longest_prefix
