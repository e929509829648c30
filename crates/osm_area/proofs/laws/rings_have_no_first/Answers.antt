use Rattle.osm_area.proofs.RingLemmas.{is_in_ring-turned}
use Rattle.osm_area.proofs.laws.rings_have_no_first.Goals as goal

pub returns : goal.returns
returns c before after place = is_in_ring-turned before after place
