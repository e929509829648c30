use Rattle.std.proofs.Common.{◌≡◌, ℕ, vec_len}
use Rattle.osm_threads.specs.Ports.{in_row}
use Rattle.osm_threads.proofs.joining.grow_inlets.Given as goal

abbrev pub invariant-loop-number : goal.invariant-loop-number
invariant-loop-number l = (vec_len l.inlets ≡ l.number)
    × ((p : ℕ) → in_row l.inlets.items p ≡ in_row l.initial.inlets.items p)
