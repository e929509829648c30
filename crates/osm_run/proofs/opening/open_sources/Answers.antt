-- The source of one task more is opened, or a task has none.
use Rattle.std.proofs.Common.{◌+◌, sym, ap, subst, ◌∙◌, arith}
use Rattle.std.specs.Option.{option_copied}
use Rattle.osm_host.specs.Moments.{moment}
use Rattle.osm_machine.specs.Devices.{source_seen}
use Rattle.osm_machine.specs.Sinks.{sink_seen}
use Rattle.osm_run.specs.Commands.{plan_of}
use Rattle.osm_run.specs.Opened.{device_seen, devices_seen}
use Rattle.osm_run.specs.declared.devices.Device.TheVariants.{Reads}
use Rattle.osm_run.specs.Opened.{WereOpened}
use Rattle.osm_run.proofs.OpenedLemmas.{source_opened, source_skipped}
use Rattle.osm_run.proofs.SeenLemmas.{length-plan_of, seen_set, source_named}
use Rattle.osm_run.proofs.opening.open_sources.Goals as goal
use Rattle.osm_run.proofs.opening.open_sources.Goals.{in-Some+in_ok-source, in_default}

pub loop-at-preserved : goal.loop-at-preserved
loop-at-preserved g c = elim c.match-source_name.branch [
  | in-Some+in_ok-source w ↦ rw (w.host-is, w.devices-is) (
    subst (WereOpened (plan_of c.args.tasks.now) (c.loop-at.at + 1) 0
        (moment g.H.Host.files g.H.Host.said g.H.Host.mute g.H.Host.count g.H.Host.gave
        g.H.Host.known c.args.host.now)
        (moment g.H.Host.files g.H.Host.said g.H.Host.mute g.H.Host.count g.H.Host.gave
        g.H.Host.known w.open_source.new.host))
        (sym (seen_set (device_seen (source_seen g.H.In.Source.name g.H.In.Source.rest g.H.In.Source.given
        g.H.In.Source.faults) (sink_seen g.H.Out.Sink.name g.H.Out.Sink.taken g.H.Out.Sink.faults)) c.loop-at.devices
        w.set_device.new.devices c.loop-at.at
        (Reads w.in_ok-source.source) w.set_device.ensures))
        (source_opened (plan_of c.args.tasks.now) c.loop-at.at
        (moment g.H.Host.files g.H.Host.said g.H.Host.mute g.H.Host.count g.H.Host.gave
        g.H.Host.known c.args.host.now)
        (moment g.H.Host.files g.H.Host.said g.H.Host.mute g.H.Host.count g.H.Host.gave
        g.H.Host.known c.loop-at.host)
        (moment g.H.Host.files g.H.Host.said g.H.Host.mute g.H.Host.count g.H.Host.gave
        g.H.Host.known w.open_source.new.host)
        (devices_seen (source_seen g.H.In.Source.name g.H.In.Source.rest g.H.In.Source.given
        g.H.In.Source.faults) (sink_seen g.H.Out.Sink.name g.H.Out.Sink.taken g.H.Out.Sink.faults) c.loop-at.devices)
        w.in-Some.name.now (source_seen g.H.In.Source.name g.H.In.Source.rest g.H.In.Source.given
        g.H.In.Source.faults w.in_ok-source.source)
        (omega (arith, length-plan_of c.args.tasks.now, c.loop-at-test.true))
        (source_named c.args.tasks.now c.loop-at.at c.index-tasks-at.result c.task.inside.kind
        (option_copied c.source_name.result) c.loop-at-test.true c.index-tasks-at.is (ap (λ x. x.kind) c.task.view_is)
        c.source_name.ensures ∙ ap option_copied w.in-Some.is)
        c.requires.files c.loop-at.invariant.0 w.in_ok-source.ensures.ok),
    w.in_ok-source.ensures.said ∙ c.loop-at.invariant.1,
    w.in_ok-source.ensures.mute ∙ c.loop-at.invariant.2,
  )
  | in_default w ↦ rw (w.host-is, w.devices-is) (
    source_skipped (plan_of c.args.tasks.now) c.loop-at.at
        (moment g.H.Host.files g.H.Host.said g.H.Host.mute g.H.Host.count g.H.Host.gave
        g.H.Host.known c.args.host.now)
        (moment g.H.Host.files g.H.Host.said g.H.Host.mute g.H.Host.count g.H.Host.gave
        g.H.Host.known c.loop-at.host)
        (devices_seen (source_seen g.H.In.Source.name g.H.In.Source.rest g.H.In.Source.given
        g.H.In.Source.faults) (sink_seen g.H.Out.Sink.name g.H.Out.Sink.taken g.H.Out.Sink.faults) c.loop-at.devices)
        (omega (arith, length-plan_of c.args.tasks.now, c.loop-at-test.true))
        (source_named c.args.tasks.now c.loop-at.at c.index-tasks-at.result c.task.inside.kind
        (option_copied c.source_name.result) c.loop-at-test.true c.index-tasks-at.is (ap (λ x. x.kind) c.task.view_is)
        c.source_name.ensures ∙ ap option_copied w.in_default.is)
        c.requires.files c.loop-at.invariant.0,
    c.loop-at.invariant.1,
    c.loop-at.invariant.2,
  )
]
