use Rattle.std.proofs.Common.{◌≡◌, ℕ, ◌<◌, length}
use Rattle.std.specs.Prelude.{get_or}
use Rattle.osm_run.specs.declared.status.SourceEnd.{SourceEnd}
use Rattle.osm_run.proofs.machines.tell_ends.Given as goal

abbrev pub invariant-loop-at : goal.invariant-loop-at
invariant-loop-at l = record {
  count : length l.ends ≡ length l.told;
  told : (k : ℕ) (d : SourceEnd) → k < l.at → get_or l.ends k d ≡ get_or l.told k d;
}
