use Rattle.std.proofs.Common.{◌∙◌, ap}
use Rattle.crossbeam_channel.specs.Claims.{view}
use Rattle.osm_entity.specs.declared.stream.Message.{Message}
use Rattle.osm_pipe.specs.declared.rule.Hand.{Hand}
use Rattle.osm_pipe.proofs.RuleLemmas.{takes}
use Rattle.osm_pipe.proofs.channels.receive.Goals as goal

pub try_recv_as-requires-clause-rule : goal.try_recv_as-requires-clause-rule
try_recv_as-requires-clause-rule g c = (
  takes c.loop.pass.id (view c.loop.pass) (ap (λ (v : Hand Message). v.takes) c.loop.invariant.2 ∙ c.requires.takes),
  λ items views h at. tt,
)

pub recv_as-requires-clause-rule : goal.recv_as-requires-clause-rule
recv_as-requires-clause-rule g c =
    let known = c.loop-2.invariant.4 ∙ c.loop.invariant.2 in (
      takes c.loop-2.pass.id (view c.loop-2.pass) (ap (λ (v : Hand Message). v.takes) known ∙ c.requires.takes),
      λ items views h at. tt,
    )
