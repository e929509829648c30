use Rattle.osm_change.proofs.SimplifyMachine.{simplify_grows, simplify_is_monotone}
use Rattle.osm_change.proofs.laws.simplifies_grow.Goals as goal

pub returns : goal.returns
returns c = record { grows = simplify_grows; monotone = simplify_is_monotone }
