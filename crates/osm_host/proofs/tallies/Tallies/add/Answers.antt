use Rattle.std.proofs.Common.{◌≡◌, Some, subst, refl}
use Rattle.std.specs.List.{position}
use Rattle.std.specs.Str.{bytes_eq}
use Rattle.osm_host.proofs.Raised.{raised-counts, same-gave, changed-names}
use Rattle.osm_host.proofs.tallies.Tallies.add.Goals as goal

pub returns-clause-counts : goal.returns-clause-counts
returns-clause-counts c =
    let found = subst (λ rows. Some c.row_of-at.result ≡ position (λ t. bytes_eq c.args.name.now t.name) rows)
    c.deref.ensures.value c.row_of-at.ensures in
    raised-counts c.self.inside.rows.items c.args.self.now c.row_of-at.result c.index_mut.result.now _
    c.args.op c.args.name.now c.args.more
    (record { same = c.self.view_is; stood = c.index_mut.ensures.value; own = refl }) found c.add.ensures

pub returns-clause-gave : goal.returns-clause-gave
returns-clause-gave c =
    same-gave c.self.inside.rows.items c.args.self.now c.row_of-at.result c.index_mut.result.now _
    (record { same = c.self.view_is; stood = c.index_mut.ensures.value; own = refl }) refl

pub returns-clause-known : goal.returns-clause-known
returns-clause-known c =
    changed-names c.self.inside.rows.items c.args.self.now c.row_of-at.result c.index_mut.result.now _
    (record { same = c.self.view_is; stood = c.index_mut.ensures.value; own = refl })
