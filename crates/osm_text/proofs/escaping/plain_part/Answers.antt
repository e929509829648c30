use Rattle.osm_text.proofs.EscapeLemmas.{escaped-position, escaped-no_position}
use Rattle.osm_text.proofs.escaping.plain_part.Goals as goal

pub returns-in-Some-clause-some : goal.returns-in-Some-clause-some
returns-in-Some-clause-some c = escaped-position c.args.bytes.now c.in-Some.at c.in-Some.ensures

pub returns-in-None-clause-none : goal.returns-in-None-clause-none
returns-in-None-clause-none c = escaped-no_position c.args.bytes.now c.in-None.ensures
