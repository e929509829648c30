-- The sink of one task more is opened, or a task has none.
use Rattle.std.proofs.Common.{◌+◌, length, sym, ap, subst, ◌∙◌, arith}
use Rattle.std.specs.Option.{option_copied}
use Rattle.osm_host.specs.Moments.{moment}
use Rattle.osm_machine.specs.Devices.{source_seen}
use Rattle.osm_machine.specs.Sinks.{sink_seen}
use Rattle.osm_run.specs.Commands.{plan_of}
use Rattle.osm_run.specs.Opened.{device_seen, devices_seen}
use Rattle.osm_run.specs.declared.devices.Device.TheVariants.{Writes}
use Rattle.osm_run.specs.Opened.{WereOpened}
use Rattle.osm_run.proofs.OpenedLemmas.{sink_opened, sink_skipped}
use Rattle.osm_run.proofs.SeenLemmas.{length-plan_of, seen_set, sink_named}
use Rattle.osm_run.proofs.opening.open_sinks.Goals as goal
use Rattle.osm_run.proofs.opening.open_sinks.Goals.{in-Some+in_ok-sink, in_default}

pub loop-at-preserved : goal.loop-at-preserved
loop-at-preserved g c = elim c.match-sink_name.branch [
  | in-Some+in_ok-sink w ↦ rw (w.host-is, w.devices-is) (
    λ before were. subst (WereOpened (plan_of c.args.tasks.now) (length c.args.tasks.now) (c.loop-at.at + 1) before
        (moment g.H.Host.files g.H.Host.said g.H.Host.mute g.H.Host.count g.H.Host.gave
        g.H.Host.known w.open_sink.new.host))
        (sym (seen_set (device_seen (source_seen g.H.In.Source.name g.H.In.Source.rest g.H.In.Source.given
        g.H.In.Source.faults) (sink_seen g.H.Out.Sink.name g.H.Out.Sink.taken g.H.Out.Sink.faults)) c.loop-at.devices
        w.set_device.new.devices c.loop-at.at
        (Writes w.in_ok-sink.sink) w.set_device.ensures))
        (sink_opened (plan_of c.args.tasks.now) (length c.args.tasks.now) c.loop-at.at before
        (moment g.H.Host.files g.H.Host.said g.H.Host.mute g.H.Host.count g.H.Host.gave
        g.H.Host.known c.loop-at.host)
        (moment g.H.Host.files g.H.Host.said g.H.Host.mute g.H.Host.count g.H.Host.gave
        g.H.Host.known w.open_sink.new.host)
        (devices_seen (source_seen g.H.In.Source.name g.H.In.Source.rest g.H.In.Source.given
        g.H.In.Source.faults) (sink_seen g.H.Out.Sink.name g.H.Out.Sink.taken g.H.Out.Sink.faults) c.loop-at.devices)
        w.in-Some.name.now (sink_seen g.H.Out.Sink.name g.H.Out.Sink.taken g.H.Out.Sink.faults
        w.in_ok-sink.sink)
        (omega (arith, length-plan_of c.args.tasks.now, c.loop-at-test.true))
        (sink_named c.args.tasks.now c.loop-at.at c.index-tasks-at.result c.task.inside.kind
        (option_copied c.sink_name.result) c.loop-at-test.true c.index-tasks-at.is (ap (λ x. x.kind) c.task.view_is)
        c.sink_name.ensures ∙ ap option_copied w.in-Some.is)
        (c.loop-at.invariant.0 before were) w.in_ok-sink.ensures.ok),
    w.in_ok-sink.ensures.said ∙ c.loop-at.invariant.1,
    w.in_ok-sink.ensures.mute ∙ c.loop-at.invariant.2,
  )
  | in_default w ↦ rw (w.host-is, w.devices-is) (
    λ before were. sink_skipped (plan_of c.args.tasks.now) (length c.args.tasks.now) c.loop-at.at before
        (moment g.H.Host.files g.H.Host.said g.H.Host.mute g.H.Host.count g.H.Host.gave
        g.H.Host.known c.loop-at.host)
        (devices_seen (source_seen g.H.In.Source.name g.H.In.Source.rest g.H.In.Source.given
        g.H.In.Source.faults) (sink_seen g.H.Out.Sink.name g.H.Out.Sink.taken g.H.Out.Sink.faults) c.loop-at.devices)
        (omega (arith, length-plan_of c.args.tasks.now, c.loop-at-test.true))
        (sink_named c.args.tasks.now c.loop-at.at c.index-tasks-at.result c.task.inside.kind
        (option_copied c.sink_name.result) c.loop-at-test.true c.index-tasks-at.is (ap (λ x. x.kind) c.task.view_is)
        c.sink_name.ensures ∙ ap option_copied w.in_default.is)
        c.requires.files (c.loop-at.invariant.0 before were),
    c.loop-at.invariant.1,
    c.loop-at.invariant.2,
  )
]
