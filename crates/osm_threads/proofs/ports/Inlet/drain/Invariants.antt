use Rattle.osm_threads.specs.Ports.{HasMore}
use Rattle.osm_threads.proofs.ports.Inlet.drain.Given as goal

abbrev pub invariant-loop : goal.invariant-loop
invariant-loop g l = HasMore l.initial.self l.self
