-- A sink more is kept, or a task has none.
use Rattle.std.proofs.Common.{◌+◌, refl, sym, ap, subst, ◌∙◌, arith}
use Rattle.std.specs.Option.{option_copied}
use Rattle.osm_host.specs.Moments.{moment}
use Rattle.osm_machine.specs.Devices.{source_seen}
use Rattle.osm_machine.specs.Sinks.{sink_seen}
use Rattle.osm_run.specs.Commands.{plan_of}
use Rattle.osm_run.specs.Opened.{device_seen, devices_seen}
use Rattle.osm_run.specs.declared.devices.Device.TheVariants.{Nothing}
use Rattle.osm_run.specs.Closed.{keep_answer}
use Rattle.osm_run.proofs.ClosableLemmas.{can_keep_sink}
use Rattle.osm_run.proofs.KeptSinkLemmas.{SinksSoFar, no_sink_turn, sink_turn, sinks_before}
use Rattle.osm_run.proofs.SeenLemmas.{length-plan_of, seen_at, seen_set, sink_named}
use Rattle.osm_run.proofs.closing.keep_sinks.Goals as goal
use Rattle.osm_run.proofs.closing.keep_sinks.Goals.{in-Some, in_default}

pub loop-at-init : goal.loop-at-init
loop-at-init g c = (
  record {
    later = λ t past. refl;
    were = sinks_before (plan_of c.args.tasks.now)
        (moment g.H.Host.files g.H.Host.said g.H.Host.mute g.H.Host.count g.H.Host.gave
        g.H.Host.known c.args.host.now)
        (devices_seen (source_seen g.H.In.Source.name g.H.In.Source.rest g.H.In.Source.given
        g.H.In.Source.faults) (sink_seen g.H.Out.Sink.name g.H.Out.Sink.taken g.H.Out.Sink.faults) c.args.devices.now)
        _ refl;
  },
  refl,
  refl,
)

pub keep_sink-outcome-requires-after_bounds : goal.keep_sink-outcome-requires-after_bounds
keep_sink-outcome-requires-after_bounds g c κs within =
    can_keep_sink (plan_of c.args.tasks.now) c.loop-at.at (g.H.Host.known c.args.host.now)
    (g.H.Host.known c.loop-at.host)
    (devices_seen (source_seen g.H.In.Source.name g.H.In.Source.rest g.H.In.Source.given
    g.H.In.Source.faults) (sink_seen g.H.Out.Sink.name g.H.Out.Sink.taken g.H.Out.Sink.faults) c.args.devices.now)
    (devices_seen (source_seen g.H.In.Source.name g.H.In.Source.rest g.H.In.Source.given
    g.H.In.Source.faults) (sink_seen g.H.Out.Sink.name g.H.Out.Sink.taken g.H.Out.Sink.faults) c.loop-at.devices)
    c.in-Some.name.now (device_seen (source_seen g.H.In.Source.name g.H.In.Source.rest g.H.In.Source.given
    g.H.In.Source.faults) (sink_seen g.H.Out.Sink.name g.H.Out.Sink.taken g.H.Out.Sink.faults)
    c.take_device-device.result)
    (omega (arith, length-plan_of c.args.tasks.now, c.loop-at-test.true)) c.requires.held
    c.loop-at.invariant.0.were.closed.known
    (c.loop-at.invariant.0.later c.loop-at.at (omega arith))
    (seen_at (device_seen (source_seen g.H.In.Source.name g.H.In.Source.rest g.H.In.Source.given
    g.H.In.Source.faults) (sink_seen g.H.Out.Sink.name g.H.Out.Sink.taken g.H.Out.Sink.faults)) c.loop-at.devices
    c.loop-at.at c.take_device-device.result
    (omega (arith, c.loop-at-test.true, c.loop-at.auto.devices, c.requires.count)) c.take_device-device.ensures.value)
    (sink_named c.args.tasks.now c.loop-at.at c.index-tasks-at.result c.task.inside.kind
    (option_copied c.sink_name.result) c.loop-at-test.true c.index-tasks-at.is (ap (λ x. x.kind) c.task.view_is)
    c.sink_name.ensures ∙ ap option_copied c.in-Some.is)

pub loop-at-preserved : goal.loop-at-preserved
loop-at-preserved g c = elim c.match-sink_name.branch [
  | in-Some w ↦ rw (w.host-is, w.devices-is, w.kept-is) (
    subst (λ ds. SinksSoFar (plan_of c.args.tasks.now) (c.loop-at.at + 1)
        (moment g.H.Host.files g.H.Host.said g.H.Host.mute g.H.Host.count g.H.Host.gave
        g.H.Host.known c.args.host.now)
        (moment g.H.Host.files g.H.Host.said g.H.Host.mute g.H.Host.count g.H.Host.gave
        g.H.Host.known w.keep_sink-outcome.new.host)
        (devices_seen (source_seen g.H.In.Source.name g.H.In.Source.rest g.H.In.Source.given
        g.H.In.Source.faults) (sink_seen g.H.Out.Sink.name g.H.Out.Sink.taken g.H.Out.Sink.faults) c.args.devices.now)
        ds w.after-kept.result)
        (sym (seen_set (device_seen (source_seen g.H.In.Source.name g.H.In.Source.rest g.H.In.Source.given
        g.H.In.Source.faults) (sink_seen g.H.Out.Sink.name g.H.Out.Sink.taken g.H.Out.Sink.faults)) c.loop-at.devices
        w.take_device-device.new.devices c.loop-at.at Nothing
        w.take_device-device.ensures.after))
        (sink_turn (plan_of c.args.tasks.now) c.loop-at.at (g.H.Host.known c.args.host.now)
        (moment g.H.Host.files g.H.Host.said g.H.Host.mute g.H.Host.count g.H.Host.gave
        g.H.Host.known c.args.host.now)
        (moment g.H.Host.files g.H.Host.said g.H.Host.mute g.H.Host.count g.H.Host.gave
        g.H.Host.known c.loop-at.host)
        (moment g.H.Host.files g.H.Host.said g.H.Host.mute g.H.Host.count g.H.Host.gave
        g.H.Host.known w.keep_sink-outcome.new.host)
        (devices_seen (source_seen g.H.In.Source.name g.H.In.Source.rest g.H.In.Source.given
        g.H.In.Source.faults) (sink_seen g.H.Out.Sink.name g.H.Out.Sink.taken g.H.Out.Sink.faults) c.args.devices.now)
        (devices_seen (source_seen g.H.In.Source.name g.H.In.Source.rest g.H.In.Source.given
        g.H.In.Source.faults) (sink_seen g.H.Out.Sink.name g.H.Out.Sink.taken g.H.Out.Sink.faults) c.loop-at.devices)
        w.in-Some.name.now (device_seen (source_seen g.H.In.Source.name g.H.In.Source.rest g.H.In.Source.given
        g.H.In.Source.faults) (sink_seen g.H.Out.Sink.name g.H.Out.Sink.taken g.H.Out.Sink.faults)
        w.take_device-device.result)
        (keep_answer w.keep_sink-outcome.result) c.loop-at.kept w.after-kept.result
        (omega (arith, length-plan_of c.args.tasks.now, c.loop-at-test.true)) c.requires.held
        (sink_named c.args.tasks.now c.loop-at.at c.index-tasks-at.result c.task.inside.kind
        (option_copied c.sink_name.result) c.loop-at-test.true c.index-tasks-at.is (ap (λ x. x.kind) c.task.view_is)
        c.sink_name.ensures ∙ ap option_copied w.in-Some.is)
        (seen_at (device_seen (source_seen g.H.In.Source.name g.H.In.Source.rest g.H.In.Source.given
        g.H.In.Source.faults) (sink_seen g.H.Out.Sink.name g.H.Out.Sink.taken g.H.Out.Sink.faults)) c.loop-at.devices
        c.loop-at.at w.take_device-device.result
        (omega (arith, c.loop-at-test.true, c.loop-at.auto.devices, c.requires.count))
        w.take_device-device.ensures.value)
        c.requires.apart c.requires.files c.loop-at.invariant.0 w.keep_sink-outcome.ensures.kept
        w.after-kept.ensures),
    w.keep_sink-outcome.ensures.said ∙ c.loop-at.invariant.1,
    w.keep_sink-outcome.ensures.mute ∙ c.loop-at.invariant.2,
  )
  | in_default w ↦ rw (w.host-is, w.devices-is, w.kept-is) (
    no_sink_turn (plan_of c.args.tasks.now) c.loop-at.at
        (moment g.H.Host.files g.H.Host.said g.H.Host.mute g.H.Host.count g.H.Host.gave
        g.H.Host.known c.args.host.now)
        (moment g.H.Host.files g.H.Host.said g.H.Host.mute g.H.Host.count g.H.Host.gave
        g.H.Host.known c.loop-at.host)
        (devices_seen (source_seen g.H.In.Source.name g.H.In.Source.rest g.H.In.Source.given
        g.H.In.Source.faults) (sink_seen g.H.Out.Sink.name g.H.Out.Sink.taken g.H.Out.Sink.faults) c.args.devices.now)
        (devices_seen (source_seen g.H.In.Source.name g.H.In.Source.rest g.H.In.Source.given
        g.H.In.Source.faults) (sink_seen g.H.Out.Sink.name g.H.Out.Sink.taken g.H.Out.Sink.faults) c.loop-at.devices)
        c.loop-at.kept
        (omega (arith, length-plan_of c.args.tasks.now, c.loop-at-test.true))
        (sink_named c.args.tasks.now c.loop-at.at c.index-tasks-at.result c.task.inside.kind
        (option_copied c.sink_name.result) c.loop-at-test.true c.index-tasks-at.is (ap (λ x. x.kind) c.task.view_is)
        c.sink_name.ensures ∙ ap option_copied w.in_default.is)
        c.requires.files c.loop-at.invariant.0,
    c.loop-at.invariant.1,
    c.loop-at.invariant.2,
  )
]
