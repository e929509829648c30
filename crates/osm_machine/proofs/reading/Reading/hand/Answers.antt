use Rattle.std.proofs.Common.{refl, sym, subst, ◌∙◌}
use Rattle.osm_entity.specs.Calls.{StopsInGive}
use Rattle.osm_opl.proofs.StandingLemmas.{OnErr-always}
use Rattle.osm_machine.specs.Devices.{source_seen}
use Rattle.osm_machine.specs.Reading.{ReadingValue, reading}
use Rattle.osm_machine.specs.declared.ready.Ready.TheVariants.{Closed}
use Rattle.osm_machine.proofs.ReadingStepLemmas.{reading_stops_in_hand}
use Rattle.osm_machine.proofs.reading.Reading.hand.Goals as goal

pub returns-in_err-look_ahead-in-Next-clause-stops : goal.returns-in_err-look_ahead-in-Next-clause-stops
returns-in_err-look_ahead-in-Next-clause-stops g c =
    let source = source_seen g.S.Source.name g.S.Source.rest g.S.Source.given g.S.Source.faults c.self.inside.source in
    let old : ReadingValue = record {
      reader = c.self.inside.reader;
      source = source;
      made = c.self.inside.made;
      ready = c.self.inside.ready;
    } in
    let mid : ReadingValue = record {
      reader = c.self.inside.reader;
      source = source;
      made = c.self.inside.made;
      ready = Closed;
    } in
    let new : ReadingValue = record {
      reader = c.look_ahead.new.reader;
      source = source;
      made = c.look_ahead.new.made;
      ready = c.look_ahead.new.ready;
    } in
    OnErr-always c.from_residual.result
    (subst (λ old. StopsInGive reading old new) c.self.view_is
    (reading_stops_in_hand c.in-Next.item old mid new
    (record {
      next = sym c.replace.ensures.value ∙ c.in-Next.is;
      none = refl;
      reader = refl;
      source = refl;
      made = refl;
      asked = record { reader = c.look_ahead.ensures.asked; source = refl };
    }) c.in_err-look_ahead-in-Next.ensures.err))
