use Rattle.std.proofs.Common.{refl}
use Rattle.osm_select.specs.Held.{stream_held}
use Rattle.osm_select.specs.Passed.{stream_passed}
use Rattle.osm_select.proofs.laws.a_small_stream_is_cut.Goals as goal

pub returns-clause-plain : goal.returns-clause-plain
unfolding stream_passed
returns-clause-plain c = refl

pub returns-clause-cascading : goal.returns-clause-cascading
unfolding stream_held
returns-clause-cascading c = refl

pub returns-clause-completed : goal.returns-clause-completed
unfolding stream_held
returns-clause-completed c = refl

pub returns-clause-clipped : goal.returns-clause-clipped
unfolding stream_passed
returns-clause-clipped c = refl
