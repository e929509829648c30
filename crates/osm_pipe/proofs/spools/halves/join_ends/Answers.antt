use Rattle.std.proofs.Common.{ap, subst}
use Rattle.osm_pipe.specs.Rule.{IsOnTheWay}
use Rattle.osm_pipe.specs.declared.rule.Hand.{Hand}
use Rattle.osm_pipe.specs.declared.store.Last.{Last}
use Rattle.osm_pipe.proofs.RuleLemmas.{joins, tells}
use Rattle.osm_pipe.proofs.spools.halves.join_ends.Goals as goal

pub absorb-requires-clause-rule : goal.absorb-requires-clause-rule
absorb-requires-clause-rule c = joins _ _ _ _ c.requires.sends c.requires.takes

pub learn_as-requires-clause-rule : goal.learn_as-requires-clause-rule
learn_as-requires-clause-rule c =
    let both = c.absorb.ensures.rule in
    tells _ _ (ap (λ (v : Hand Last). v.sends) both) (ap (λ (v : Hand Last). v.takes) both)

pub returns : goal.returns
returns c = let told = c.learn_as.ensures.rule in
    let way = subst (λ h. IsOnTheWay h told.0) c.absorb.ensures.rule told.1 in
    (told.0, way.joined)
