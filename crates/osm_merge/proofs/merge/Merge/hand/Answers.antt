use Rattle.osm_merge.specs.Choices.{chosen_by}
use Rattle.osm_merge.specs.Heads.{heads_of}
use Rattle.osm_merge.specs.declared.merge.Merge.{Merge}
use Rattle.osm_merge.proofs.TwoInputLemmas.{gives_within}
use Rattle.osm_merge.proofs.merge.Merge.hand.Goals as goal

pub returns-clause-gives : goal.returns-clause-gives
returns-clause-gives c = gives_within (λ (m : Merge). m.heads) (heads_of chosen_by) c.args.port c.hand.result
    c.args.self.now (record { heads = c.hand.new.self }) c.hand.ensures.gives
