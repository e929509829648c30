use Rattle.std.proofs.Common.{ap, refl, rules}
use Rattle.osm_entity.specs.declared.kind.Key.{Key}
use Rattle.osm_select.proofs.PassingLemmas.{passing_drops, passing_stops, passing_takes}
use Rattle.osm_select.proofs.passing.Passing.take_item.Goals as goal

pub returns-then-not-admits-clause-takes : goal.returns-then-not-admits-clause-takes
returns-then-not-admits-clause-takes c = passing_drops c.args.self.now c.admits.new.self c.args.item c.key.result.kind
    c.admits.result (ap (λ (k : Key). k.kind) c.key.ensures) (search rules) c.admits.ensures c.requires

pub returns-in-Ok-clause-takes : goal.returns-in-Ok-clause-takes
returns-in-Ok-clause-takes c = passing_takes c.args.self.now _ c.args.item c.key.result.kind c.admits.result
    (ap (λ (k : Key). k.kind) c.key.ensures) (search rules) c.admits.ensures c.requires c.in-Ok.ensures.given
    c.in-Ok.ensures.after refl

pub returns-in-Err-clause-stops : goal.returns-in-Err-clause-stops
returns-in-Err-clause-stops c = passing_stops c.args.self.now _ c.args.item refl refl refl
