use Rattle.std.proofs.Common.{length, ap, arith}
use Rattle.osm_poly.proofs.LineLemmas.{poly_lines-cut}
use Rattle.osm_poly.proofs.line.after_name.Goals as goal

pub returns-in-Some-clause-same : goal.returns-in-Some-clause-same
returns-in-Some-clause-same c =
    let cut = poly_lines-cut c.args.bytes.now _ c.in-Some.rest.now c.in-Some.ensures.some in
    omega (arith, ap (λ lines. length lines) cut)
