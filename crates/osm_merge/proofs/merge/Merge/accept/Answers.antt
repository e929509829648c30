use Rattle.osm_merge.specs.Choices.{chosen_by}
use Rattle.osm_merge.specs.Heads.{heads_of}
use Rattle.osm_merge.specs.declared.merge.Merge.{Merge}
use Rattle.osm_merge.proofs.TwoInputLemmas.{takes_within}
use Rattle.osm_merge.proofs.merge.Merge.accept.Goals as goal

pub returns-clause-takes : goal.returns-clause-takes
returns-clause-takes c = takes_within (λ (m : Merge). m.heads) (heads_of chosen_by) c.args.port c.args.message
    c.args.self.now (record { heads = c.accept.new.self }) c.accept.ensures.takes
