use Rattle.std.proofs.Common.{refl}
use Rattle.osm_run.specs.Asked.{HasCircle}
use Rattle.osm_run.proofs.asking.refusal_of.Goals as goal

pub returns-in-Err-clause-refused : goal.returns-in-Err-clause-refused
returns-in-Err-clause-refused c = HasCircle c.args.graph.now c.in-Err.circle refl c.in-Err.ensures.found refl
