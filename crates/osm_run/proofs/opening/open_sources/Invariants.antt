-- The sources of the tasks before were opened.
use Rattle.std.proofs.Common.{◌≡◌}
use Rattle.osm_host.specs.Moments.{moment}
use Rattle.osm_machine.specs.Devices.{source_seen}
use Rattle.osm_machine.specs.Sinks.{sink_seen}
use Rattle.osm_run.specs.Commands.{plan_of}
use Rattle.osm_run.specs.Opened.{WereOpened, devices_seen}
use Rattle.osm_run.proofs.opening.open_sources.Given as goal

abbrev pub invariant-loop-at : goal.invariant-loop-at
invariant-loop-at g l =
    WereOpened (plan_of l.tasks) l.at 0
    (moment g.H.Host.files g.H.Host.said g.H.Host.mute g.H.Host.count g.H.Host.gave g.H.Host.known l.initial.host)
    (moment g.H.Host.files g.H.Host.said g.H.Host.mute g.H.Host.count g.H.Host.gave g.H.Host.known l.host)
    (devices_seen (source_seen g.H.In.Source.name g.H.In.Source.rest g.H.In.Source.given
    g.H.In.Source.faults) (sink_seen g.H.Out.Sink.name g.H.Out.Sink.taken g.H.Out.Sink.faults) l.devices)
    × (g.H.Host.said l.host ≡ g.H.Host.said l.initial.host) × (g.H.Host.mute l.host ≡ g.H.Host.mute l.initial.host)
