-- Machines of two inputs are lawful.
use Rattle.osm_entity.specs.Machines.{AreLawful}
use Rattle.osm_change.specs.Applying.{applying}
use Rattle.osm_change.specs.Changes.{laid_over, laid_over_is_choice}
use Rattle.osm_change.specs.declared.apply.Apply.{Apply}
use Rattle.osm_change.specs.declared.apply.Changes.{Changes}
use Rattle.osm_merge.specs.Append.{appending}
use Rattle.osm_merge.specs.Choices.{chosen_by, chosen_by_is_choice}
use Rattle.osm_merge.specs.Heads.{heads_of}
use Rattle.osm_merge.specs.Merging.{merging}
use Rattle.osm_merge.specs.TwoInputs.{meanings_of_two}
use Rattle.osm_merge.specs.declared.merge.Merge.{Merge}
use Rattle.osm_merge.proofs.AppendMachine.{append_keeps}
use Rattle.osm_merge.proofs.HeadsMachine.{heads_keep}
use Rattle.osm_merge.proofs.TwoInputLemmas.{two_are_lawful, within_keeps}

pub merging_is_lawful : AreLawful (meanings_of_two merging)
merging_is_lawful = two_are_lawful merging
    (within_keeps (λ (m : Merge). m.heads) (heads_of chosen_by) (heads_keep chosen_by chosen_by_is_choice))

pub appending_is_lawful : AreLawful (meanings_of_two appending)
appending_is_lawful = two_are_lawful appending append_keeps

pub applying_is_lawful : AreLawful (meanings_of_two applying)
applying_is_lawful = two_are_lawful applying (within_keeps (λ (a : Apply). a.heads)
    (heads_of (λ (c : Changes). laid_over)) (heads_keep (λ (c : Changes). laid_over) (λ c. laid_over_is_choice)))
