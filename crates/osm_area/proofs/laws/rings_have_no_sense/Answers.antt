use Rattle.osm_area.proofs.RingLemmas.{is_in_ring-reverse}
use Rattle.osm_area.proofs.laws.rings_have_no_sense.Goals as goal

pub returns : goal.returns
returns c ring place = is_in_ring-reverse ring place
