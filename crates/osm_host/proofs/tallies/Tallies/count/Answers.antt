use Rattle.std.proofs.Common.{◌≡◌, Some, subst, sym, ap, ◌∙◌}
use Rattle.std.specs.List.{position}
use Rattle.std.specs.Str.{bytes_eq}
use Rattle.osm_host.specs.Tallies.{faults_of, faults_in}
use Rattle.osm_host.proofs.Named.{named-found, named-missing}
use Rattle.osm_host.proofs.tallies.Tallies.count.Goals as goal

pub returns-in-Some : goal.returns-in-Some
returns-in-Some c =
    let found = subst (λ rows. Some c.in-Some.at ≡ position (λ t. bytes_eq c.args.name.now t.name) rows)
    c.deref.ensures.value c.in-Some.ensures in
    c.of.ensures ∙ ap (λ t. faults_of t.faults c.args.op) c.index.ensures
    ∙ sym (named-found (λ t. t.name) (λ t. faults_of t.faults c.args.op) 0 c.args.name.now c.self.inside.rows.items
    c.in-Some.at c.index.result.now found)
    ∙ ap (λ rows. faults_in rows c.args.op c.args.name.now) c.self.view_is

pub returns-in-None : goal.returns-in-None
returns-in-None c =
    sym (named-missing (λ t. t.name) (λ t. faults_of t.faults c.args.op) 0 c.deref.result.now c.args.name.now
    (sym c.in-None.ensures))
    ∙ ap (λ rows. faults_in rows c.args.op c.args.name.now) (c.deref.ensures.value ∙ c.self.view_is)
