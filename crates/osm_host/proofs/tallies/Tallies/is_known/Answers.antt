use Rattle.std.proofs.Common.{subst, sym, ◌∙◌}
use Rattle.std.specs.Prelude.{Contains}
use Rattle.osm_host.specs.Tallies.{names_in}
use Rattle.osm_host.proofs.Named.{position-Contains, position-None}
use Rattle.osm_host.proofs.tallies.Tallies.is_known.Goals as goal

pub returns-in-Some-clause-found : goal.returns-in-Some-clause-found
returns-in-Some-clause-found c h =
    subst (λ rows. Contains (names_in rows) c.args.name.now) (c.deref.ensures.value ∙ c.self.view_is)
    (position-Contains (λ t. t.name) c.deref.result.now c.args.name.now c.in-Some._at (sym c.in-Some.ensures))

pub returns-in-None-clause-none : goal.returns-in-None-clause-none
returns-in-None-clause-none c has =
    absurd (position-None (λ t. t.name) c.deref.result.now c.args.name.now (sym c.in-None.ensures)
    (subst (λ rows. Contains (names_in rows) c.args.name.now) (sym (c.deref.ensures.value ∙ c.self.view_is)) has))
