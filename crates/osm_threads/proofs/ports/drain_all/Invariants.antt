use Rattle.std.proofs.Common.{◌≡◌, ℕ, ◌<◌, ◌≤◌, length, true}
use Rattle.osm_threads.specs.Ports.{HasMore, in_row, is_shut}
use Rattle.osm_threads.proofs.ports.drain_all.Given as goal

abbrev pub invariant-loop-inlet : goal.invariant-loop-inlet
invariant-loop-inlet g l = (length l.inlet-items ≡ length l.initial.inlet-items)
    × ((p : ℕ) → p < l.inlet-index → HasMore (in_row l.initial.inlet-items p) (in_row l.inlet-items p))
    × ((p : ℕ) → l.inlet-index ≤ p → in_row l.inlet-items p ≡ in_row l.initial.inlet-items p)
    × ((p : ℕ) → p < l.inlet-index → is_shut (in_row l.inlet-items p) ≡ true)
