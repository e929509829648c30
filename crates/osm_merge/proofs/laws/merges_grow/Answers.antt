use Rattle.osm_merge.proofs.RuleLemmas.{merged_grows}
use Rattle.osm_merge.proofs.laws.merges_grow.Goals as goal

pub returns : goal.returns
returns c = merged_grows
