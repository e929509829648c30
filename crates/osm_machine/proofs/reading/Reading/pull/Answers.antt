use Rattle.std.proofs.Common.{◌≡◌, refl, sym, subst}
use Rattle.osm_entity.specs.Calls.{Pulls, StopsInPull}
use Rattle.osm_machine.specs.Devices.{source_seen}
use Rattle.osm_machine.specs.Reading.{ReadingValue, reading}
use Rattle.osm_machine.specs.declared.ready.Ready.TheVariants.{Nothing}
use Rattle.osm_machine.proofs.ReadingStepLemmas.{given_pulled, keeps_asked, on_err, on_ok, reading_nothing, reading_pulls, reading_stops_in_pull, ready_or_stopped}
use Rattle.osm_machine.proofs.reading.Reading.pull.Goals as goal

pub pull-requires : goal.pull-requires
pull-requires g c = c.self.invariant.wants
    (subst (λ (m : ReadingValue). m.ready ≡ Nothing) (sym c.self.view_is) (reading_nothing c.args.self.now c.requires))

pub invariant_of-self : goal.invariant_of-self
invariant_of-self g c =
    let nothing : c.self.inside.ready ≡ Nothing = subst (λ (m : ReadingValue). m.ready ≡ Nothing) (sym c.self.view_is)
    (reading_nothing c.args.self.now c.requires) in
    keeps_asked c.pull.new.self c.look_ahead.new.reader c.self.inside.made c.look_ahead.new.made c.look_ahead.new.ready
    (given_pulled c.self.inside.reader c.pull.new.self c.self.inside.made _ _ (c.self.invariant.wants nothing)
    c.self.invariant.given c.pull.ensures.pulled c.pull.ensures.same)
    c.look_ahead.ensures.asked
    (ready_or_stopped c.look_ahead.result c.look_ahead.new.reader c.look_ahead.new.ready c.look_ahead.ensures.ok
    c.look_ahead.ensures.err)

pub returns-clause-pulls : goal.returns-clause-pulls
returns-clause-pulls g c =
    let before = source_seen g.S.Source.name g.S.Source.rest g.S.Source.given g.S.Source.faults c.self.inside.source in
    let now = source_seen g.S.Source.name g.S.Source.rest g.S.Source.given g.S.Source.faults c.pull.new.source in
    let old : ReadingValue = record {
      reader = c.self.inside.reader;
      source = before;
      made = c.self.inside.made;
      ready = c.self.inside.ready;
    } in
    let mid : ReadingValue = record {
      reader = c.pull.new.self;
      source = now;
      made = c.self.inside.made;
      ready = Nothing;
    } in
    let new : ReadingValue = record {
      reader = c.look_ahead.new.reader;
      source = now;
      made = c.look_ahead.new.made;
      ready = c.look_ahead.new.ready;
    } in
    let nothing : c.self.inside.ready ≡ Nothing = subst (λ (m : ReadingValue). m.ready ≡ Nothing) (sym c.self.view_is)
    (reading_nothing c.args.self.now c.requires) in
    on_ok c.look_ahead.result
    (λ ready. subst (λ old. Pulls reading old new) c.self.view_is
    (reading_pulls old mid new
    (record {
      nothing = nothing;
      nothing_yet = refl;
      made = refl;
      wants = c.self.invariant.wants nothing;
      sized = c.self.invariant.given.sized;
      pull = c.pull.ensures.pulled;
      same = c.pull.ensures.same;
      asked = record { reader = c.look_ahead.ensures.asked; source = refl };
    }) ready c.look_ahead.ensures.unclosed))
    c.look_ahead.ensures.ok

pub returns-clause-stops : goal.returns-clause-stops
returns-clause-stops g c =
    let before = source_seen g.S.Source.name g.S.Source.rest g.S.Source.given g.S.Source.faults c.self.inside.source in
    let now = source_seen g.S.Source.name g.S.Source.rest g.S.Source.given g.S.Source.faults c.pull.new.source in
    let old : ReadingValue = record {
      reader = c.self.inside.reader;
      source = before;
      made = c.self.inside.made;
      ready = c.self.inside.ready;
    } in
    let mid : ReadingValue = record {
      reader = c.pull.new.self;
      source = now;
      made = c.self.inside.made;
      ready = Nothing;
    } in
    let new : ReadingValue = record {
      reader = c.look_ahead.new.reader;
      source = now;
      made = c.look_ahead.new.made;
      ready = c.look_ahead.new.ready;
    } in
    let nothing : c.self.inside.ready ≡ Nothing = subst (λ (m : ReadingValue). m.ready ≡ Nothing) (sym c.self.view_is)
    (reading_nothing c.args.self.now c.requires) in
    on_err c.look_ahead.result
    (λ stopped. subst (λ old. StopsInPull reading old new) c.self.view_is
    (reading_stops_in_pull old mid new
    (record {
      nothing = nothing;
      nothing_yet = refl;
      made = refl;
      wants = c.self.invariant.wants nothing;
      sized = c.self.invariant.given.sized;
      pull = c.pull.ensures.pulled;
      same = c.pull.ensures.same;
      asked = record { reader = c.look_ahead.ensures.asked; source = refl };
    }) stopped)) c.look_ahead.ensures.err
