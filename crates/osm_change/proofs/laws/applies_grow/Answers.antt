use Rattle.osm_change.specs.Changes.{laid_over, laid_over_is_choice}
use Rattle.osm_merge.proofs.RuleLemmas.{merged_grows}
use Rattle.osm_change.proofs.laws.applies_grow.Goals as goal

pub returns-clause-monotone : goal.returns-clause-monotone
returns-clause-monotone c = merged_grows laid_over laid_over_is_choice
