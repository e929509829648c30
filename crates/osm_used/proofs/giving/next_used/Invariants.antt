use Rattle.std.proofs.Common.{◌≡◌, ◌≤◌, length}
use Rattle.std.specs.List.{filter}
use Rattle.osm_used.specs.Used.{has_id, stays_if}
use Rattle.osm_used.proofs.giving.next_used.Given as goal

abbrev pub invariant-loop-item : goal.invariant-loop-item
invariant-loop-item l =
    (filter (stays_if l.kind (has_id l.named)) l.initial.kept ≡ filter (stays_if l.kind (has_id l.named)) l.kept)
    × (length l.kept ≤ length l.initial.kept)

abbrev pub decreases-loop-item : goal.decreases-loop-item
decreases-loop-item l = length l.kept
