use Rattle.std.proofs.Common.{◌≡◌, ℤ, ap, refl, rules, subst}
use Rattle.std.specs.Prelude.{◌||◌}
use Rattle.osm_used.specs.Used.{body_names, has_id}
use Rattle.osm_used.specs.Using.{UsedValue}
use Rattle.osm_used.proofs.UsingLemmas.{used_stops, used_takes_end, used_takes_item}
use Rattle.osm_used.proofs.using.Using.accept.Goals as goal

pub returns-in-Ok-clause-takes : goal.returns-in-Ok-clause-takes
returns-in-Ok-clause-takes c = rw c.in-Item.is
    (used_takes_item c.args.self.now _ c.in-Item.item c.args.port
    (ap (λ (u : UsedValue). u.kind) c.self.view_is) (search rules)
    (subst (λ (u : UsedValue). (id : ℤ) → has_id c.hold.new.named id
    ≡ (has_id u.named id || body_names u.kind c.in-Item.item.entity.body id)) c.self.view_is c.in-Ok.ensures.named)
    (ap (λ (u : UsedValue). u.phase) c.self.view_is) c.requires)

pub returns-in-Err-clause-stops : goal.returns-in-Err-clause-stops
returns-in-Err-clause-stops c = used_stops c.args.self.now _ c.args.message c.args.port refl c.requires

pub returns-in-End-clause-takes : goal.returns-in-End-clause-takes
returns-in-End-clause-takes c = rw c.in-End.is
    (used_takes_end c.args.self.now _ c.in-End.end c.args.port
    (ap (λ (u : UsedValue). u.kind) c.self.view_is) (ap (λ (u : UsedValue). u.kept) c.self.view_is)
    (subst (λ (u : UsedValue). (id : ℤ) → has_id c.sort.new.self id ≡ has_id u.named id) c.self.view_is c.sort.ensures)
    refl c.requires)
