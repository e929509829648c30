use Rattle.osm_area.proofs.SectionLemmas.{sections_hold-more}
use Rattle.osm_area.proofs.laws.later_sections_decide.Goals as goal

pub returns : goal.returns
returns c sections section place = sections_hold-more sections section place
