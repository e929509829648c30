-- A source more is closed, or a task has none.
use Rattle.std.proofs.Common.{◌+◌, refl, sym, ap, subst, ◌∙◌, arith}
use Rattle.std.specs.Option.{option_copied}
use Rattle.std.proofs.lemmas.List.{length-map}
use Rattle.osm_host.specs.Moments.{moment}
use Rattle.osm_machine.specs.Devices.{source_seen}
use Rattle.osm_machine.specs.Sinks.{sink_seen}
use Rattle.osm_run.specs.Commands.{plan_of}
use Rattle.osm_run.specs.Opened.{device_seen, devices_seen}
use Rattle.osm_run.specs.declared.devices.Device.TheVariants.{Nothing}
use Rattle.osm_run.proofs.ClosableLemmas.{can_close_source}
use Rattle.osm_run.proofs.ClosedSourceLemmas.{SourcesSoFar, no_source_turn, source_turn, sources_before}
use Rattle.osm_run.proofs.SeenLemmas.{length-plan_of, seen_at, seen_set, source_named}
use Rattle.osm_run.proofs.closing.close_sources.Goals as goal
use Rattle.osm_run.proofs.closing.close_sources.Goals.{in-Some, in_default}

pub loop-at-init : goal.loop-at-init
loop-at-init g c = (
  sources_before (plan_of c.args.tasks.now)
      (moment g.H.Host.files g.H.Host.said g.H.Host.mute g.H.Host.count g.H.Host.gave
      g.H.Host.known c.args.host.now)
      (devices_seen (source_seen g.H.In.Source.name g.H.In.Source.rest g.H.In.Source.given
      g.H.In.Source.faults) (sink_seen g.H.Out.Sink.name g.H.Out.Sink.taken g.H.Out.Sink.faults) c.args.devices.now),
  refl,
  refl,
)

pub close_source-requires-after_bounds : goal.close_source-requires-after_bounds
close_source-requires-after_bounds g c κs within =
    can_close_source (plan_of c.args.tasks.now) c.loop-at.at (g.H.Host.known c.args.host.now)
    (g.H.Host.known c.loop-at.host)
    (devices_seen (source_seen g.H.In.Source.name g.H.In.Source.rest g.H.In.Source.given
    g.H.In.Source.faults) (sink_seen g.H.Out.Sink.name g.H.Out.Sink.taken g.H.Out.Sink.faults) c.args.devices.now)
    (devices_seen (source_seen g.H.In.Source.name g.H.In.Source.rest g.H.In.Source.given
    g.H.In.Source.faults) (sink_seen g.H.Out.Sink.name g.H.Out.Sink.taken g.H.Out.Sink.faults) c.loop-at.devices)
    c.in-Some.name.now (device_seen (source_seen g.H.In.Source.name g.H.In.Source.rest g.H.In.Source.given
    g.H.In.Source.faults) (sink_seen g.H.Out.Sink.name g.H.Out.Sink.taken g.H.Out.Sink.faults)
    c.take_device-device.result)
    (omega (arith, length-plan_of c.args.tasks.now, c.loop-at-test.true)) c.requires c.loop-at.invariant.0.closed.known
    (c.loop-at.invariant.0.later c.loop-at.at (omega arith))
    (seen_at (device_seen (source_seen g.H.In.Source.name g.H.In.Source.rest g.H.In.Source.given
    g.H.In.Source.faults) (sink_seen g.H.Out.Sink.name g.H.Out.Sink.taken g.H.Out.Sink.faults)) c.loop-at.devices
    c.loop-at.at c.take_device-device.result
    (omega (
      arith,
      c.loop-at-test.true,
      c.loop-at.auto.devices,
      length-plan_of c.args.tasks.now,
      length-map c.args.devices.now (device_seen (source_seen g.H.In.Source.name g.H.In.Source.rest g.H.In.Source.given
          g.H.In.Source.faults) (sink_seen g.H.Out.Sink.name g.H.Out.Sink.taken g.H.Out.Sink.faults)),
      c.requires.count,
    )) c.take_device-device.ensures.value)
    (source_named c.args.tasks.now c.loop-at.at c.index-tasks-at.result c.task.inside.kind
    (option_copied c.source_name.result) c.loop-at-test.true c.index-tasks-at.is (ap (λ x. x.kind) c.task.view_is)
    c.source_name.ensures ∙ ap option_copied c.in-Some.is)

pub loop-at-preserved : goal.loop-at-preserved
loop-at-preserved g c = elim c.match-source_name.branch [
  | in-Some w ↦ rw (w.host-is, w.devices-is) (
    subst (SourcesSoFar (plan_of c.args.tasks.now) (c.loop-at.at + 1)
        (moment g.H.Host.files g.H.Host.said g.H.Host.mute g.H.Host.count g.H.Host.gave
        g.H.Host.known c.args.host.now)
        (moment g.H.Host.files g.H.Host.said g.H.Host.mute g.H.Host.count g.H.Host.gave
        g.H.Host.known w.close_source.new.host)
        (devices_seen (source_seen g.H.In.Source.name g.H.In.Source.rest g.H.In.Source.given
        g.H.In.Source.faults) (sink_seen g.H.Out.Sink.name g.H.Out.Sink.taken g.H.Out.Sink.faults) c.args.devices.now))
        (sym (seen_set (device_seen (source_seen g.H.In.Source.name g.H.In.Source.rest g.H.In.Source.given
        g.H.In.Source.faults) (sink_seen g.H.Out.Sink.name g.H.Out.Sink.taken g.H.Out.Sink.faults)) c.loop-at.devices
        w.take_device-device.new.devices c.loop-at.at Nothing
        w.take_device-device.ensures.after))
        (source_turn (plan_of c.args.tasks.now) c.loop-at.at (g.H.Host.known c.args.host.now)
        (moment g.H.Host.files g.H.Host.said g.H.Host.mute g.H.Host.count g.H.Host.gave
        g.H.Host.known c.args.host.now)
        (moment g.H.Host.files g.H.Host.said g.H.Host.mute g.H.Host.count g.H.Host.gave
        g.H.Host.known c.loop-at.host)
        (moment g.H.Host.files g.H.Host.said g.H.Host.mute g.H.Host.count g.H.Host.gave
        g.H.Host.known w.close_source.new.host)
        (devices_seen (source_seen g.H.In.Source.name g.H.In.Source.rest g.H.In.Source.given
        g.H.In.Source.faults) (sink_seen g.H.Out.Sink.name g.H.Out.Sink.taken g.H.Out.Sink.faults) c.args.devices.now)
        (devices_seen (source_seen g.H.In.Source.name g.H.In.Source.rest g.H.In.Source.given
        g.H.In.Source.faults) (sink_seen g.H.Out.Sink.name g.H.Out.Sink.taken g.H.Out.Sink.faults) c.loop-at.devices)
        w.in-Some.name.now (device_seen (source_seen g.H.In.Source.name g.H.In.Source.rest g.H.In.Source.given
        g.H.In.Source.faults) (sink_seen g.H.Out.Sink.name g.H.Out.Sink.taken g.H.Out.Sink.faults)
        w.take_device-device.result)
        (omega (arith, length-plan_of c.args.tasks.now, c.loop-at-test.true))
        (omega (
          arith,
          c.loop-at.auto.devices,
          length-map c.args.devices.now (device_seen
              (source_seen g.H.In.Source.name g.H.In.Source.rest g.H.In.Source.given
              g.H.In.Source.faults) (sink_seen g.H.Out.Sink.name g.H.Out.Sink.taken g.H.Out.Sink.faults)),
          length-map c.loop-at.devices (device_seen
              (source_seen g.H.In.Source.name g.H.In.Source.rest g.H.In.Source.given
              g.H.In.Source.faults) (sink_seen g.H.Out.Sink.name g.H.Out.Sink.taken g.H.Out.Sink.faults)),
        )) c.requires
        (source_named c.args.tasks.now c.loop-at.at c.index-tasks-at.result c.task.inside.kind
        (option_copied c.source_name.result) c.loop-at-test.true c.index-tasks-at.is (ap (λ x. x.kind) c.task.view_is)
        c.source_name.ensures ∙ ap option_copied w.in-Some.is)
        (seen_at (device_seen (source_seen g.H.In.Source.name g.H.In.Source.rest g.H.In.Source.given
        g.H.In.Source.faults) (sink_seen g.H.Out.Sink.name g.H.Out.Sink.taken g.H.Out.Sink.faults)) c.loop-at.devices
        c.loop-at.at w.take_device-device.result
        (omega (
          arith,
          c.loop-at-test.true,
          c.loop-at.auto.devices,
          length-plan_of c.args.tasks.now,
          length-map c.args.devices.now (device_seen
              (source_seen g.H.In.Source.name g.H.In.Source.rest g.H.In.Source.given
              g.H.In.Source.faults) (sink_seen g.H.Out.Sink.name g.H.Out.Sink.taken g.H.Out.Sink.faults)),
          c.requires.count,
        )) w.take_device-device.ensures.value)
        c.loop-at.invariant.0 w.close_source.ensures.closed),
    w.close_source.ensures.said ∙ c.loop-at.invariant.1,
    w.close_source.ensures.mute ∙ c.loop-at.invariant.2,
  )
  | in_default w ↦ rw (w.host-is, w.devices-is) (
    no_source_turn (plan_of c.args.tasks.now) c.loop-at.at (g.H.Host.known c.args.host.now)
        (moment g.H.Host.files g.H.Host.said g.H.Host.mute g.H.Host.count g.H.Host.gave
        g.H.Host.known c.args.host.now)
        (moment g.H.Host.files g.H.Host.said g.H.Host.mute g.H.Host.count g.H.Host.gave
        g.H.Host.known c.loop-at.host)
        (devices_seen (source_seen g.H.In.Source.name g.H.In.Source.rest g.H.In.Source.given
        g.H.In.Source.faults) (sink_seen g.H.Out.Sink.name g.H.Out.Sink.taken g.H.Out.Sink.faults) c.args.devices.now)
        (devices_seen (source_seen g.H.In.Source.name g.H.In.Source.rest g.H.In.Source.given
        g.H.In.Source.faults) (sink_seen g.H.Out.Sink.name g.H.Out.Sink.taken g.H.Out.Sink.faults) c.loop-at.devices)
        (omega (arith, length-plan_of c.args.tasks.now, c.loop-at-test.true)) c.requires
        (source_named c.args.tasks.now c.loop-at.at c.index-tasks-at.result c.task.inside.kind
        (option_copied c.source_name.result) c.loop-at-test.true c.index-tasks-at.is (ap (λ x. x.kind) c.task.view_is)
        c.source_name.ensures ∙ ap option_copied w.in_default.is)
        c.loop-at.invariant.0,
    c.loop-at.invariant.1,
    c.loop-at.invariant.2,
  )
]
