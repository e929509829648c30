use Rattle.osm_poly.specs.Points.{is_text}
use Rattle.osm_text.proofs.DegreesLemmas.{place-or_end, place-within}
use Rattle.osm_poly.proofs.point.position_of_text.Goals as goal

pub returns-clause-value : goal.returns-clause-value
returns-clause-value c = rw (c.find_text.ensures, place-or_end is_text c.args.line.now) at c.unwrap_or.ensures

pub returns-clause-within : goal.returns-clause-within
returns-clause-within c =
    rw (c.unwrap_or.ensures, c.find_text.ensures, place-or_end is_text c.args.line.now)
    (place-within is_text c.args.line.now)
