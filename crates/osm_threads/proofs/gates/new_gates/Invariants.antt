use Rattle.std.proofs.Common.{◌≡◌, ◌≤◌, vec_capacity, vec_len}
use Rattle.std.specs.Prelude.{All}
use Rattle.osm_threads.specs.Starts.{IsNewGate}
use Rattle.osm_threads.proofs.gates.new_gates.Given as goal

abbrev pub invariant-loop-number : goal.invariant-loop-number
invariant-loop-number g l = All IsNewGate l.gates.items × (vec_len l.gates ≡ l.number) × (l.count ≤ vec_capacity l.gates)
