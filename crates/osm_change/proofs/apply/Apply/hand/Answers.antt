use Rattle.osm_change.specs.Changes.{laid_over}
use Rattle.osm_change.specs.declared.apply.Apply.{Apply}
use Rattle.osm_change.specs.declared.apply.Changes.{Changes}
use Rattle.osm_merge.specs.Heads.{heads_of}
use Rattle.osm_merge.proofs.TwoInputLemmas.{gives_within}
use Rattle.osm_change.proofs.apply.Apply.hand.Goals as goal

pub returns-clause-gives : goal.returns-clause-gives
returns-clause-gives c = gives_within (λ (a : Apply). a.heads) (heads_of (λ (c : Changes). laid_over)) c.args.port
    c.hand.result c.args.self.now (record { heads = c.hand.new.self }) c.hand.ensures.gives
