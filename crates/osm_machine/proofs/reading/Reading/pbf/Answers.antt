use Rattle.std.proofs.Common.{refl}
use Rattle.osm_machine.proofs.ReadingStepLemmas.{reading_is_new}
use Rattle.osm_machine.proofs.reading.Reading.pbf.Goals as goal

pub returns-clause-new : goal.returns-clause-new
returns-clause-new g c = reading_is_new _ refl c.in_ok-new.ensures.stands c.in_ok-new.ensures.wants
