use Rattle.std.proofs.Common.{◌≡◌, drop}
use Rattle.osm_tasks.specs.Resolving.{resolved_from}
use Rattle.osm_tasks.proofs.ResolveLemmas.{after_done}
use Rattle.osm_tasks.proofs.resolving.resolve.Given as goal

abbrev pub invariant-loop-at : goal.invariant-loop-at
invariant-loop-at l = resolved_from 0 l.list ≡ after_done l.tasks (resolved_from l.at (drop l.at l.list))
