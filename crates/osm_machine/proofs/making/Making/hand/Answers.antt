use Rattle.std.proofs.Common.{◌≡◌, refl, sym, subst}
use Rattle.osm_entity.specs.Calls.{Gives, StopsInGive}
use Rattle.osm_entity.specs.declared.stream.Message.TheVariants.{Item as One}
use Rattle.osm_entity.specs.declared.stream.Want.TheVariants.{Give}
use Rattle.osm_machine.specs.Making.{MakingValue, making, making_wants}
use Rattle.osm_machine.specs.declared.making.Progress.TheVariants.{Stopped}
use Rattle.osm_machine.proofs.MakingLaws.{making_gives_item, making_stops}
use Rattle.osm_machine.proofs.making.Making.hand.Goals as goal

pub returns-in-Ok-Some-clause-gives : goal.returns-in-Ok-Some-clause-gives
returns-in-Ok-Some-clause-gives c =
    let old : MakingValue = record { made = c.self.inside.made; progress = c.self.inside.progress } in
    let new : MakingValue = record { made = c.next.new.self; progress = c.self.inside.progress } in
    subst (λ old. Gives making c.args.port (One c.in-Ok-Some.item) old new) c.self.view_is
    (making_gives_item old new c.args.port c.in-Ok-Some.item
    (subst (λ (m : MakingValue). making_wants m.progress ≡ Give c.args.port) (sym c.self.view_is) c.requires) refl
    (rw c.in-Ok-Some.field-0-is at c.in-Ok-Some.ensures.some) (rw c.in-Ok-Some.field-0-is at c.in-Ok-Some.ensures.given)
    (rw c.in-Ok-Some.field-0-is at c.in-Ok-Some.ensures.falls))

pub returns-in-Err-clause-stops : goal.returns-in-Err-clause-stops
returns-in-Err-clause-stops c =
    let old : MakingValue = record { made = c.self.inside.made; progress = c.self.inside.progress } in
    let new : MakingValue = record { made = c.next.new.self; progress = Stopped } in
    subst (λ old. StopsInGive making old new) c.self.view_is
    (making_stops old new c.args.port
    (subst (λ (m : MakingValue). making_wants m.progress ≡ Give c.args.port) (sym c.self.view_is) c.requires) refl
    c.in-Err.ensures.err)
