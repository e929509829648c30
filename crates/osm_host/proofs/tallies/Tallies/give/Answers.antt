use Rattle.std.proofs.Common.{◌≡◌, Some, subst, ap}
use Rattle.std.specs.List.{position}
use Rattle.std.specs.Str.{bytes_eq}
use Rattle.osm_host.specs.Tallies.{faults_of}
use Rattle.osm_host.proofs.Raised.{raised-gave, same-counts, changed-names}
use Rattle.osm_host.proofs.tallies.Tallies.give.Goals as goal

pub returns-clause-gave : goal.returns-clause-gave
returns-clause-gave c =
    let found = subst (λ rows. Some c.row_of-at.result ≡ position (λ t. bytes_eq c.args.name.now t.name) rows)
    c.deref.ensures.value c.row_of-at.ensures in
    raised-gave c.self.inside.rows.items c.args.self.now c.row_of-at.result c.index_mut.result.now _
    c.args.name.now c.args.more
    (record { same = c.self.view_is; stood = c.index_mut.ensures.value; own = c.give.ensures.name })
    found c.give.ensures.gave

pub returns-clause-counts : goal.returns-clause-counts
returns-clause-counts c =
    same-counts c.self.inside.rows.items c.args.self.now c.row_of-at.result c.index_mut.result.now _
    (record { same = c.self.view_is; stood = c.index_mut.ensures.value; own = c.give.ensures.name })
    (λ o. ap (λ faults. faults_of faults o) c.give.ensures.faults)

pub returns-clause-known : goal.returns-clause-known
returns-clause-known c =
    changed-names c.self.inside.rows.items c.args.self.now c.row_of-at.result c.index_mut.result.now _
    (record { same = c.self.view_is; stood = c.index_mut.ensures.value; own = c.give.ensures.name })
