use Rattle.std.proofs.Common.{◌≡◌, ℕ, vec_len}
use Rattle.osm_threads.specs.Ports.{in_row}
use Rattle.osm_threads.proofs.joining.grow_outlets.Given as goal

abbrev pub invariant-loop-number : goal.invariant-loop-number
invariant-loop-number l = (vec_len l.outlets ≡ l.number)
    × ((p : ℕ) → in_row l.outlets.items p ≡ in_row l.initial.outlets.items p)
