use Rattle.std.proofs.Common.{◌+◌, ◌∙◌, length, sym, arith}
use Rattle.osm_poly.specs.Lines.{poly_lines, said_from}
use Rattle.osm_poly.specs.Sections.{parts_from, ring_part}
use Rattle.osm_poly.proofs.PartLemmas.{drop-parts_line, points-done, points-more}
use Rattle.osm_poly.proofs.section.read_points.Goals as goal

pub returns-then-ends-clause-ok : goal.returns-then-ends-clause-ok
returns-then-ends-clause-ok c =
    points-done (c.loop-step.at + length (poly_lines c.loop-step.rest.now)) c.in-Ok.step.2 c.in-Ok.step.0.now
    c.loop-step.corners (said_from c.loop-step.at c.loop-step.rest.now)
    (said_from (c.in-Ok.step.2 + 1) c.in-Ok.step.1.now)
    (ring_part (c.args.first + length (poly_lines c.args.bytes.now)) (parts_from c.args.first c.args.bytes.now))
    c.loop-step.invariant.read c.in-Ok.ensures.said (sym c.ends.ensures ∙ c.if-ends.true)

pub loop-step-preserved : goal.loop-step-preserved
loop-step-preserved c =
    let other = sym c.ends.ensures ∙ c.if-ends.false in
    record {
      ring = c.in_ok-add_point.ensures.ring;
      read =
          points-more (c.loop-step.at + length (poly_lines c.loop-step.rest.now))
          (c.in-Ok.step.2 + 1 + length (poly_lines c.in-Ok.step.1.now)) c.in-Ok.step.2 c.in-Ok.step.0.now
          c.loop-step.corners c.add_point.new.corners (said_from c.loop-step.at c.loop-step.rest.now)
          (said_from (c.in-Ok.step.2 + 1) c.in-Ok.step.1.now)
          (ring_part (c.args.first + length (poly_lines c.args.bytes.now)) (parts_from c.args.first c.args.bytes.now))
          c.in-Ok.ensures.same c.loop-step.invariant.read c.in-Ok.ensures.said other c.in_ok-add_point.ensures.ok;
      others =
          c.loop-step.invariant.others ∙
          drop-parts_line c.in-Ok.step.2 c.in-Ok.step.0.now (said_from c.loop-step.at c.loop-step.rest.now)
          (said_from (c.in-Ok.step.2 + 1) c.in-Ok.step.1.now) c.in-Ok.ensures.said other;
      same = c.loop-step.invariant.same ∙ c.in-Ok.ensures.same;
      fits = omega (arith, c.loop-step.invariant.fits, c.in-Ok.ensures.fits);
      shorter = omega (arith, c.loop-step.invariant.shorter, c.in-Ok.ensures.shorter);
    }
