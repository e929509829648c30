use Rattle.osm_change.specs.Changes.{laid_over}
use Rattle.osm_change.specs.declared.apply.Apply.{Apply}
use Rattle.osm_change.specs.declared.apply.Changes.{Changes}
use Rattle.osm_merge.specs.Heads.{heads_of}
use Rattle.osm_merge.proofs.TwoInputLemmas.{takes_within}
use Rattle.osm_change.proofs.apply.Apply.accept.Goals as goal

pub returns-clause-takes : goal.returns-clause-takes
returns-clause-takes c = takes_within (λ (a : Apply). a.heads) (heads_of (λ (c : Changes). laid_over)) c.args.port
    c.args.message c.args.self.now (record { heads = c.accept.new.self }) c.accept.ensures.takes
