use Rattle.osm_machine.proofs.CopyingLemmas.{copying_stops}
use Rattle.osm_machine.proofs.ResultLemmas.{OnErr-weaker}
use Rattle.osm_machine.proofs.copying.Copying.hand.Goals as goal

pub returns-then-port-self-clause-stops : goal.returns-then-port-self-clause-stops
returns-then-port-self-clause-stops c = OnErr-weaker c.hand_copy.result
    (λ stopped. rw stopped (copying_stops c.args.self.now)) c.hand_copy.ensures.stops
