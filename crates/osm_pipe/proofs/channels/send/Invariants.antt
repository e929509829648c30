use Rattle.std.proofs.Common.{◌≡◌}
use Rattle.crossbeam_channel.specs.Claims.{view, IsSeatAt}
use Rattle.crossbeam_channel.specs.Ends.{sends_on}
use Rattle.osm_pipe.specs.Bounded.{bounded_of}
use Rattle.osm_pipe.proofs.channels.send.Given as goal

abbrev pub invariant-loop : goal.invariant-loop
invariant-loop g l = IsSeatAt (sends_on l.to) l.pass × (bounded_of l.pass ≡ bounded_of l.initial.pass)
    × (view l.pass ≡ view l.initial.pass) × (l.message ≡ l.initial.message)

abbrev pub invariant-loop-2 : goal.invariant-loop-2
invariant-loop-2 g l = (goal.iterator-loop-2 g).can_next l.iterator' × (goal.iterator-loop-2 g).is_finite l.iterator'
    × IsSeatAt (sends_on l.to) l.pass × (bounded_of l.pass ≡ bounded_of l.initial.pass)
    × (view l.pass ≡ view l.initial.pass) × (l.message ≡ l.initial.message)
