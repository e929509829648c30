use Rattle.std.proofs.Common.{ap, false, refl, rules, true}
use Rattle.osm_entity.specs.declared.kind.Key.{Key}
use Rattle.osm_select.proofs.HoldingLemmas.{holding_takes}
use Rattle.osm_select.proofs.holding.Holding.take_item.Goals as goal

pub returns-then-not-admits-clause-takes : goal.returns-then-not-admits-clause-takes
returns-then-not-admits-clause-takes c = holding_takes c.args.self.now _ c.args.item c.key.result.kind c.admits.result
    false (ap (λ (k : Key). k.kind) c.key.ensures) (search rules) c.admits.ensures c.requires c.new.ensures refl

pub returns-in-Ok-clause-takes : goal.returns-in-Ok-clause-takes
returns-in-Ok-clause-takes c = holding_takes c.args.self.now _ c.args.item c.key.result.kind c.admits.result true
    (ap (λ (k : Key). k.kind) c.key.ensures) (search rules) c.admits.ensures c.requires c.in-Ok.ensures.ok refl
