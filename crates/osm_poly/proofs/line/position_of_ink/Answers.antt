use Rattle.osm_poly.specs.Lines.{is_ink}
use Rattle.osm_text.proofs.DegreesLemmas.{place-or_end, place-within}
use Rattle.osm_poly.proofs.line.position_of_ink.Goals as goal

pub returns-clause-value : goal.returns-clause-value
returns-clause-value c = rw (c.find_ink.ensures, place-or_end is_ink c.args.line.now) at c.unwrap_or.ensures

pub returns-clause-within : goal.returns-clause-within
returns-clause-within c =
    rw (c.unwrap_or.ensures, c.find_ink.ensures, place-or_end is_ink c.args.line.now)
    (place-within is_ink c.args.line.now)
