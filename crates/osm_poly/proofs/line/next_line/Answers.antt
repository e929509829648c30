use Rattle.std.proofs.Common.{◌≡◌, ◌∙◌, rules, length, ap, arith}
use Rattle.std.proofs.lemmas.Grind.{common_steps}
use Rattle.osm_poly.specs.Lines.{poly_lines, stripped}
use Rattle.osm_poly.proofs.LineLemmas.{poly_lines-cut, said-passed}
use Rattle.osm_poly.proofs.line.next_line.Goals as goal

pub loop-line-preserved : goal.loop-line-preserved
loop-line-preserved c =
    let cut =
    poly_lines-cut c.loop-line.rest.now c.in-Some.line.now c.in-Some.more.now c.in-Some.ensures.some in
    let bare : length c.strip-line.result.now ≡ 0 =
    first_of (search rules, omega (arith, c.if-not-is_empty.ensures), grind (arith, common_steps)) in
    let nothing : length (stripped c.in-Some.line.now) ≡ 0 = rw c.strip-line.ensures at bare in
    let shorter = c.in-Some.ensures.shorter in
    record {
      said =
          c.loop-line.invariant.said ∙
          said-passed c.loop-line.number c.loop-line.rest.now (stripped c.in-Some.line.now)
          (poly_lines c.in-Some.more.now)
          cut nothing;
      same = omega (arith, c.loop-line.invariant.same, ap (λ lines. length lines) cut);
      fits = omega (arith, c.loop-line.invariant.fits, shorter);
      shorter = omega (arith, c.loop-line.invariant.shorter, shorter);
    }
