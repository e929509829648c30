use Rattle.std.proofs.Common.{◌≡◌}
use Rattle.osm_tasks.specs.Given.{pipe_names}
use Rattle.osm_tasks.proofs.pipes.pipe_names.Given as goal

abbrev pub invariant-loop-port : goal.invariant-loop-port
invariant-loop-port l = l.names ≡ pipe_names l.prefix l.words l.port
