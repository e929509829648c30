use Rattle.osm_change.specs.Applying.{applying}
use Rattle.osm_change.specs.Changes.{laid_over, laid_over_is_choice}
use Rattle.osm_change.specs.declared.apply.Apply.{Apply}
use Rattle.osm_change.specs.declared.apply.Changes.{Changes}
use Rattle.osm_merge.specs.Heads.{heads_of}
use Rattle.osm_merge.proofs.HeadsMachine.{heads_keep}
use Rattle.osm_merge.proofs.TwoInputLemmas.{two_are_lawful, within_keeps}
use Rattle.osm_change.proofs.laws.applies_are_lawful.Goals as goal

pub returns : goal.returns
returns c = two_are_lawful applying (within_keeps (λ (a : Apply). a.heads) (heads_of (λ (c : Changes). laid_over))
    (heads_keep (λ (c : Changes). laid_over) (λ c. laid_over_is_choice)))
