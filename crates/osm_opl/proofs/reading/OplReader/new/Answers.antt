use Rattle.std.proofs.Common.{refl}
use Rattle.osm_opl.proofs.StandingLemmas.{new_stands}
use Rattle.osm_opl.proofs.reading.OplReader.new.Goals as goal

pub returns-clause-stands : goal.returns-clause-stands
returns-clause-stands c = new_stands _ refl refl refl c.in_ok-new.ensures refl
