use Rattle.osm_merge.specs.Choices.{chosen_by, chosen_by_is_choice}
use Rattle.osm_merge.specs.Heads.{heads_of}
use Rattle.osm_merge.specs.Merging.{merging}
use Rattle.osm_merge.specs.declared.merge.Merge.{Merge}
use Rattle.osm_merge.proofs.HeadsMachine.{heads_keep}
use Rattle.osm_merge.proofs.TwoInputLemmas.{two_are_lawful, within_keeps}
use Rattle.osm_merge.proofs.laws.merges_are_lawful.Goals as goal

pub returns : goal.returns
returns c = two_are_lawful merging
    (within_keeps (λ (m : Merge). m.heads) (heads_of chosen_by) (heads_keep chosen_by chosen_by_is_choice))
