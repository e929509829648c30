use Rattle.std.proofs.Common.{◌∙◌, refl, sym}
use Rattle.osm_area.proofs.BoundsLemmas.{path-lies_east, path-none}
use Rattle.osm_area.proofs.group.run_counts_odd.Goals as goal

pub returns-then-not-reach : goal.returns-then-not-reach
returns-then-not-reach c =
    let out = sym c.reach.ensures ∙ c.if-not-reach.true in
    let none = path-none c.args.bounds.now c.args.place.now c.args.run.now out c.requires.fits in
    rw none refl

pub eastern_counts_odd-requires : goal.eastern_counts_odd-requires
eastern_counts_odd-requires c =
    path-lies_east c.args.bounds.now c.args.place.now c.args.run.now (sym c.lie_east.ensures ∙ c.if-lie_east.true)
    c.requires.fits
