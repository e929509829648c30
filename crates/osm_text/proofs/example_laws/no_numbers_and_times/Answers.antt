use Rattle.std.proofs.Common.{refl}
use Rattle.osm_text.specs.Times.{time}
use Rattle.osm_text.proofs.example_laws.no_numbers_and_times.Goals as goal

pub returns-clause-no_time : goal.returns-clause-no_time
unfolding time
returns-clause-no_time c = refl

pub returns-clause-space_within : goal.returns-clause-space_within
unfolding time
returns-clause-space_within c = refl
