use Rattle.osm_poly.specs.Points.{is_gap}
use Rattle.osm_text.proofs.DegreesLemmas.{place-or_end, place-within}
use Rattle.osm_poly.proofs.point.position_of_gap.Goals as goal

pub returns-clause-value : goal.returns-clause-value
returns-clause-value c = rw (c.find_gap.ensures, place-or_end is_gap c.args.line.now) at c.unwrap_or.ensures

pub returns-clause-within : goal.returns-clause-within
returns-clause-within c =
    rw (c.unwrap_or.ensures, c.find_gap.ensures, place-or_end is_gap c.args.line.now)
    (place-within is_gap c.args.line.now)
