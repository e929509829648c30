use Rattle.osm_text.specs.Nano.{is_point}
use Rattle.osm_text.proofs.DegreesLemmas.{place-or_end, place-within}
use Rattle.osm_text.proofs.degrees.position_of_point.Goals as goal

pub returns-clause-value : goal.returns-clause-value
returns-clause-value c = rw (c.find_point.ensures, place-or_end is_point c.args.bytes.now) at c.unwrap_or.ensures

pub returns-clause-within : goal.returns-clause-within
returns-clause-within c =
    rw (c.unwrap_or.ensures, c.find_point.ensures, place-or_end is_point c.args.bytes.now)
    (place-within is_point c.args.bytes.now)
