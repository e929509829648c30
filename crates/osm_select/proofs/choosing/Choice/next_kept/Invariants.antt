use Rattle.std.proofs.Common.{◌≡◌, ◌≤◌, length}
use Rattle.std.specs.Prelude.{filter}
use Rattle.osm_select.specs.Kept.{sets_of}
use Rattle.osm_select.specs.Parts.{has_item}
use Rattle.osm_select.proofs.choosing.Choice.next_kept.Given as goal

abbrev pub invariant-loop-item : goal.invariant-loop-item
invariant-loop-item l =
    (filter (has_item (sets_of l.self.kept)) l.initial.items ≡ filter (has_item (sets_of l.self.kept)) l.items)
    × (length l.items ≤ length l.initial.items)

abbrev pub decreases-loop-item : goal.decreases-loop-item
decreases-loop-item l = length l.items
