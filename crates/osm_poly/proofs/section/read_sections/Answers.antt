use Rattle.std.proofs.Common.{◌+◌, ◌∙◌, length, sym, arith}
use Rattle.osm_poly.specs.Lines.{poly_lines, said_from}
use Rattle.osm_poly.specs.Sections.{parts_from, poly_sections}
use Rattle.osm_poly.proofs.PartLemmas.{sections-done, sections-more}
use Rattle.osm_poly.proofs.section.read_sections.Goals as goal

pub returns-then-ends-clause-ok : goal.returns-then-ends-clause-ok
returns-then-ends-clause-ok c =
    sections-done (c.loop-step.at + length (poly_lines c.loop-step.rest.now)) c.in-Ok.step.2 c.in-Ok.step.0.now
    c.loop-step.sections (said_from c.loop-step.at c.loop-step.rest.now)
    (said_from (c.in-Ok.step.2 + 1) c.in-Ok.step.1.now)
    (poly_sections (c.args.first + length (poly_lines c.args.bytes.now)) (parts_from c.args.first c.args.bytes.now))
    c.loop-step.invariant.read c.in-Ok.ensures.said (sym c.ends.ensures ∙ c.if-ends.true)

pub loop-step-preserved : goal.loop-step-preserved
loop-step-preserved c =
    let pushed = c.in_ok-add_section.ensures.ok in
    let points = c.in_ok-after.ensures in
    record {
      read =
          rw (pushed, c.is_added.ensures)
          (sections-more (c.loop-step.at + length (poly_lines c.loop-step.rest.now))
          (c.in-Ok.step.2 + 1 + length (poly_lines c.in-Ok.step.1.now)) (c.in_ok-after.next + length (poly_lines c.in_ok-after.after.now))
          c.in-Ok.step.2 c.in-Ok.step.0.now c.read_points.new.corners c.loop-step.sections
          (said_from c.loop-step.at c.loop-step.rest.now) (said_from (c.in-Ok.step.2 + 1) c.in-Ok.step.1.now)
          (said_from c.in_ok-after.next c.in_ok-after.after.now)
          (poly_sections (c.args.first + length (poly_lines c.args.bytes.now))
          (parts_from c.args.first c.args.bytes.now)) c.in-Ok.ensures.same points.same
          c.loop-step.invariant.read c.in-Ok.ensures.said
          (sym c.ends.ensures ∙ c.if-ends.false) points.ok points.rest);
      same = c.loop-step.invariant.same ∙ c.in-Ok.ensures.same ∙ points.same;
      fits = omega (arith, c.loop-step.invariant.fits, c.in-Ok.ensures.fits, points.fits);
    }
