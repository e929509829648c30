use Rattle.std.proofs.Common.{ap, subst}
use Rattle.osm_entity.specs.Items.{ItemValue}
use Rattle.osm_pipe.specs.Rule.{IsOnTheWay}
use Rattle.osm_pipe.specs.declared.rule.Hand.{Hand}
use Rattle.osm_pipe.proofs.RuleLemmas.{joins, tells}
use Rattle.osm_pipe.proofs.spools.halves.join_items.Goals as goal

pub absorb-requires-clause-rule : goal.absorb-requires-clause-rule
absorb-requires-clause-rule g c = joins _ _ _ _ c.requires.sends c.requires.takes

pub len_as-requires-clause-rule : goal.len_as-requires-clause-rule
len_as-requires-clause-rule g c =
    let both = c.absorb.ensures.rule in
    tells _ _ (ap (λ (v : Hand ItemValue). v.sends) both) (ap (λ (v : Hand ItemValue). v.takes) both)

pub returns : goal.returns
returns g c = let told = c.len_as.ensures.rule in
    let way = subst (λ h. IsOnTheWay h told.0) c.absorb.ensures.rule told.2 in
    (told.0, way.joined)
