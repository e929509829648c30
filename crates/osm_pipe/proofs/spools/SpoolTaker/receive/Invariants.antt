use Rattle.std.proofs.Common.{◌≡◌}
use Rattle.osm_pipe.proofs.spools.SpoolTaker.receive.Given as goal

abbrev pub invariant-loop : goal.invariant-loop
invariant-loop g l = l.self ≡ l.initial.self

abbrev pub invariant-loop-2 : goal.invariant-loop-2
invariant-loop-2 g l = (goal.iterator-loop-2 g).can_next l.iterator' × (goal.iterator-loop-2 g).is_finite l.iterator'
    × (l.self ≡ l.initial.self)
