use Rattle.std.proofs.Common.{◌∙◌, ap}
use Rattle.crossbeam_channel.specs.Claims.{view}
use Rattle.crossbeam_channel.specs.Ends.{sends_on, ruled_capacity}
use Rattle.osm_entity.specs.declared.stream.Message.{Message}
use Rattle.osm_pipe.specs.declared.rule.Hand.{Hand}
use Rattle.osm_pipe.proofs.RuleLemmas.{sends, within_full}
use Rattle.osm_pipe.proofs.channels.send.Goals as goal

pub try_send_as-requires-clause-rule : goal.try_send_as-requires-clause-rule
try_send_as-requires-clause-rule g c =
    let places = ruled_capacity (sends_on c.args.to.now) in
    let pass = c.loop.pass in
    let known = c.loop.invariant.2 in (
      sends places pass.id (view pass) c.loop.message (ap (λ (v : Hand Message). v.sends) known ∙ c.requires.sends)
          (within_full (view pass).limit places (ap (λ (v : Hand Message). v.limit) known ∙ c.requires.limit)),
      λ items views h at. tt,
    )

pub send_as-requires-clause-rule : goal.send_as-requires-clause-rule
send_as-requires-clause-rule g c =
    let places = ruled_capacity (sends_on c.args.to.now) in
    let pass = c.loop-2.pass in
    let known = c.loop-2.invariant.4 ∙ c.loop.invariant.2 in (
      sends places pass.id (view pass) c.loop-2.message (ap (λ (v : Hand Message). v.sends) known ∙ c.requires.sends)
          (within_full (view pass).limit places (ap (λ (v : Hand Message). v.limit) known ∙ c.requires.limit)),
      λ items views h at. tt,
    )
