use Rattle.std.proofs.Common.{◌≡◌, ◌<◌, ℕ, length}
use Rattle.std.specs.Prelude.{slice_get}
use Rattle.osm_graph.specs.Pipes.{pipe_into}
use Rattle.osm_net.proofs.task_pipes.all_into.Given as goal

abbrev pub invariant-loop-port : goal.invariant-loop-port
invariant-loop-port l = (length l.table.items ≡ l.port)
    × ((port : ℕ) → port < length l.table.items → slice_get l.table.items port ≡ pipe_into l.pipes l.task port)
