use Rattle.std.proofs.Common.{◌≡◌, ℕ, ◌<◌, ◌≤◌, length}
use Rattle.osm_threads.specs.Ports.{broken_off, in_row}
use Rattle.osm_threads.proofs.ports.break_all.Given as goal

abbrev pub invariant-loop-outlet : goal.invariant-loop-outlet
invariant-loop-outlet g l = (length l.outlet-items ≡ length l.initial.outlet-items)
    × ((p : ℕ) → p < l.outlet-index → in_row l.outlet-items p ≡ broken_off (in_row l.initial.outlet-items p))
    × ((p : ℕ) → l.outlet-index ≤ p → in_row l.outlet-items p ≡ in_row l.initial.outlet-items p)
