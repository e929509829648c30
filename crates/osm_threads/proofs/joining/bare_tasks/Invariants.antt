use Rattle.std.proofs.Common.{◌≡◌, ◌≤◌, vec_capacity, vec_len}
use Rattle.osm_threads.specs.Rows.{HaveNothing}
use Rattle.osm_threads.proofs.joining.bare_tasks.Given as goal

abbrev pub invariant-loop-number : goal.invariant-loop-number
invariant-loop-number l = HaveNothing l.tasks.items × (vec_len l.tasks ≡ l.number) × (l.count ≤ vec_capacity l.tasks)
