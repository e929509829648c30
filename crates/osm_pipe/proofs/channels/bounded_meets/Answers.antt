use Rattle.std.proofs.Common.{ap, subst}
use Rattle.osm_entity.specs.declared.stream.Message.{Message}
use Rattle.osm_pipe.specs.Rule.{IsOnTheWay}
use Rattle.osm_pipe.specs.declared.rule.Hand.{Hand}
use Rattle.osm_pipe.proofs.RuleLemmas.{joins, tells, left_within}
use Rattle.osm_pipe.proofs.channels.bounded_meets.Goals as goal

pub absorb-requires-clause-rule : goal.absorb-requires-clause-rule
absorb-requires-clause-rule c = joins _ _ _ _
    (ap (λ (v : Hand Message). v.sends) c.sent.invariant.1) (ap (λ (v : Hand Message). v.takes) c.taken.invariant.1)

pub learn_as-requires-clause-rule : goal.learn_as-requires-clause-rule
learn_as-requires-clause-rule c = let both = c.absorb.ensures.rule in
    tells _ _ (ap (λ (v : Hand Message). v.sends) both) (ap (λ (v : Hand Message). v.takes) both)

pub returns-clause-prefix : goal.returns-clause-prefix
returns-clause-prefix c = let told = c.learn_as.ensures.rule in
    let way = subst (λ h. IsOnTheWay h told.0) c.absorb.ensures.rule told.1 in
    rw (← c.sent.view_is, ← c.taken.view_is) (record { rest = told.0; joined = way.joined })

pub returns-clause-within : goal.returns-clause-within
returns-clause-within c = let told = c.learn_as.ensures.rule in
    let way = subst (λ h. IsOnTheWay h told.0) c.absorb.ensures.rule told.1 in
    rw (← c.sent.view_is, ← c.taken.view_is) (left_within _ told.0 way)
