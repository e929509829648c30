use Rattle.std.proofs.Common.{refl}
use Rattle.std.specs.Fmt.{digits}
use Rattle.osm_text.proofs.example_laws.far_degrees.Goals as goal

pub returns-clause-written : goal.returns-clause-written
unfolding digits
returns-clause-written c = refl
