-- The files of all tasks are opened, where there is room for them.
use Rattle.std.proofs.Common.{sym, ap, subst, ◌∙◌}
use Rattle.std.specs.List.{AllByRecursion}
use Rattle.osm_host.specs.Moments.{moment}
use Rattle.osm_machine.specs.Devices.{source_seen}
use Rattle.osm_machine.specs.Sinks.{sink_seen}
use Rattle.osm_run.specs.Opened.{ReadsOrWrites, devices_seen}
use Rattle.osm_run.proofs.RefusedLemmas.{nothing_opened}
use Rattle.osm_run.proofs.opening.open_devices.Goals as goal

pub returns-in-Err-clause-stopped : goal.returns-in-Err-clause-stopped
returns-in-Err-clause-stopped g c = λ k same.
    nothing_opened k
    (moment g.H.Host.files g.H.Host.said g.H.Host.mute g.H.Host.count g.H.Host.gave
    g.H.Host.known c.args.host.now) c.of.result
    (subst (AllByRecursion ReadsOrWrites) (sym same) c.requires.files) c.of.ensures.fault
    (c.of.ensures.ends ∙ c.new.ensures)

pub open_all-requires-clause-closed : goal.open_all-requires-clause-closed
open_all-requires-clause-closed g c κs lives =
    ap (devices_seen (source_seen g.H.In.Source.name g.H.In.Source.rest g.H.In.Source.given g.H.In.Source.faults)
    (sink_seen g.H.Out.Sink.name g.H.Out.Sink.taken g.H.Out.Sink.faults)) c.as_mut_slice.ensures.value
    ∙ c.in-Ok.ensures.devices
    (source_seen g.H.In.Source.name g.H.In.Source.rest g.H.In.Source.given g.H.In.Source.faults)
    (sink_seen g.H.Out.Sink.name g.H.Out.Sink.taken g.H.Out.Sink.faults)
