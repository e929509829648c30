-- All files are opened, or the run ends at one that was not.
use Rattle.std.proofs.Common.{[], length, sym, ap, subst, ◌∙◌}
use Rattle.std.specs.List.{AllByRecursion}
use Rattle.osm_host.specs.Moments.{moment}
use Rattle.osm_machine.specs.Devices.{source_seen}
use Rattle.osm_machine.specs.Sinks.{sink_seen}
use Rattle.osm_run.specs.Closed.{WasKept, WereClosed}
use Rattle.osm_run.specs.Commands.{plan_of}
use Rattle.osm_run.specs.Course.{entries}
use Rattle.osm_run.specs.Opened.{ReadsOrWrites, StoppedAtSink, StoppedAtSource, WereOpened, course_at_rest, devices_seen}
use Rattle.osm_run.specs.Went.{device_at}
use Rattle.osm_run.proofs.OpenedLemmas.{all_opened, none_opened}
use Rattle.osm_run.proofs.GivenBackLemmas.{can_close_at_sink, can_close_at_source, closed_room}
use Rattle.osm_run.proofs.RefusedLemmas.{stopped_at_sink, stopped_at_source}
use Rattle.osm_run.proofs.SeenLemmas.{length-plan_of, replicate_seen}
use Rattle.osm_run.proofs.opening.open_all.Goals as goal

pub open_sources-requires-clause-closed : goal.open_sources-requires-clause-closed
open_sources-requires-clause-closed g c κs lives =
    none_opened (plan_of c.args.tasks.now)
    (moment g.H.Host.files g.H.Host.said g.H.Host.mute g.H.Host.count g.H.Host.gave
    g.H.Host.known c.args.host.now)
    (devices_seen (source_seen g.H.In.Source.name g.H.In.Source.rest g.H.In.Source.given g.H.In.Source.faults)
    (sink_seen g.H.Out.Sink.name g.H.Out.Sink.taken g.H.Out.Sink.faults) c.args.devices.now)
    c.requires.files (replicate_seen
    (devices_seen (source_seen g.H.In.Source.name g.H.In.Source.rest g.H.In.Source.given g.H.In.Source.faults)
    (sink_seen g.H.Out.Sink.name g.H.Out.Sink.taken g.H.Out.Sink.faults) c.args.devices.now) c.args.tasks.now
    c.requires.closed)
    (λ t. ap (λ ds. device_at ds t) c.requires.closed ∙ closed_room (length c.args.tasks.now) t)

pub close_sources-requires-after_bounds : goal.close_sources-requires-after_bounds
close_sources-requires-after_bounds g c κs lives =
    can_close_at_source (plan_of c.args.tasks.now)
    (moment g.H.Host.files g.H.Host.said g.H.Host.mute g.H.Host.count g.H.Host.gave
    g.H.Host.known c.args.host.now)
    (moment g.H.Host.files g.H.Host.said g.H.Host.mute g.H.Host.count g.H.Host.gave
    g.H.Host.known c.open_sources.new.host)
    (devices_seen (source_seen g.H.In.Source.name g.H.In.Source.rest g.H.In.Source.given g.H.In.Source.faults)
    (sink_seen g.H.Out.Sink.name g.H.Out.Sink.taken g.H.Out.Sink.faults) c.open_sources.new.devices) c.in-Err.fault
    c.requires.files c.in-Err.ensures.err

pub returns-in-Err-clause-stopped : goal.returns-in-Err-clause-stopped
returns-in-Err-clause-stopped g c = λ k same.
    stopped_at_source k
    (moment g.H.Host.files g.H.Host.said g.H.Host.mute g.H.Host.count g.H.Host.gave
    g.H.Host.known c.args.host.now)
    (moment g.H.Host.files g.H.Host.said g.H.Host.mute g.H.Host.count g.H.Host.gave
    g.H.Host.known c.open_sources.new.host)
    (moment g.H.Host.files g.H.Host.said g.H.Host.mute g.H.Host.count g.H.Host.gave
    g.H.Host.known c.close_sources.new.host)
    (devices_seen (source_seen g.H.In.Source.name g.H.In.Source.rest g.H.In.Source.given g.H.In.Source.faults)
    (sink_seen g.H.Out.Sink.name g.H.Out.Sink.taken g.H.Out.Sink.faults) c.open_sources.new.devices) c.in-Err.fault
    c.of.result
    (subst (AllByRecursion ReadsOrWrites) (sym same) c.requires.files)
    (subst (λ p. StoppedAtSource p
    (moment g.H.Host.files g.H.Host.said g.H.Host.mute g.H.Host.count g.H.Host.gave
    g.H.Host.known c.args.host.now)
    (moment g.H.Host.files g.H.Host.said g.H.Host.mute g.H.Host.count g.H.Host.gave
    g.H.Host.known c.open_sources.new.host)
    (devices_seen (source_seen g.H.In.Source.name g.H.In.Source.rest g.H.In.Source.given g.H.In.Source.faults)
    (sink_seen g.H.Out.Sink.name g.H.Out.Sink.taken g.H.Out.Sink.faults) c.open_sources.new.devices) c.in-Err.fault)
    (sym same)
    c.in-Err.ensures.err)
    (subst (λ p. WereClosed p (length p) 0
    (moment g.H.Host.files g.H.Host.said g.H.Host.mute g.H.Host.count g.H.Host.gave
    g.H.Host.known c.open_sources.new.host)
    (moment g.H.Host.files g.H.Host.said g.H.Host.mute g.H.Host.count g.H.Host.gave
    g.H.Host.known c.close_sources.new.host)
    (devices_seen (source_seen g.H.In.Source.name g.H.In.Source.rest g.H.In.Source.given g.H.In.Source.faults)
    (sink_seen g.H.Out.Sink.name g.H.Out.Sink.taken g.H.Out.Sink.faults) c.open_sources.new.devices) (λ t. WasKept))
    (sym same)
    (subst (λ n. WereClosed (plan_of c.args.tasks.now) n 0
    (moment g.H.Host.files g.H.Host.said g.H.Host.mute g.H.Host.count g.H.Host.gave
    g.H.Host.known c.open_sources.new.host)
    (moment g.H.Host.files g.H.Host.said g.H.Host.mute g.H.Host.count g.H.Host.gave
    g.H.Host.known c.close_sources.new.host)
    (devices_seen (source_seen g.H.In.Source.name g.H.In.Source.rest g.H.In.Source.given g.H.In.Source.faults)
    (sink_seen g.H.Out.Sink.name g.H.Out.Sink.taken g.H.Out.Sink.faults) c.open_sources.new.devices) (λ t. WasKept))
    (sym (length-plan_of c.args.tasks.now)) c.close_sources.ensures.closed))
    c.of.ensures.fault (c.of.ensures.ends ∙ c.new.ensures)

pub close_sources-requires-in-Err-open_sinks-after_bounds : goal.close_sources-requires-in-Err-open_sinks-after_bounds
close_sources-requires-in-Err-open_sinks-after_bounds g c κs lives =
    can_close_at_sink (plan_of c.args.tasks.now)
    (moment g.H.Host.files g.H.Host.said g.H.Host.mute g.H.Host.count g.H.Host.gave
    g.H.Host.known c.args.host.now)
    (moment g.H.Host.files g.H.Host.said g.H.Host.mute g.H.Host.count g.H.Host.gave
    g.H.Host.known c.open_sinks.new.host)
    (devices_seen (source_seen g.H.In.Source.name g.H.In.Source.rest g.H.In.Source.given g.H.In.Source.faults)
    (sink_seen g.H.Out.Sink.name g.H.Out.Sink.taken g.H.Out.Sink.faults) c.open_sinks.new.devices)
    c.in-Err-open_sinks.fault
    c.requires.files (c.in-Err-open_sinks.ensures.err
    (moment g.H.Host.files g.H.Host.said g.H.Host.mute g.H.Host.count g.H.Host.gave
    g.H.Host.known c.args.host.now) c.in_default.ensures.ok)

pub returns-in-Err-open_sinks-clause-stopped : goal.returns-in-Err-open_sinks-clause-stopped
returns-in-Err-open_sinks-clause-stopped g c = λ k same.
    stopped_at_sink k
    (moment g.H.Host.files g.H.Host.said g.H.Host.mute g.H.Host.count g.H.Host.gave
    g.H.Host.known c.args.host.now)
    (moment g.H.Host.files g.H.Host.said g.H.Host.mute g.H.Host.count g.H.Host.gave
    g.H.Host.known c.open_sinks.new.host)
    (moment g.H.Host.files g.H.Host.said g.H.Host.mute g.H.Host.count g.H.Host.gave
    g.H.Host.known c.close_sources-in-Err-open_sinks.new.host)
    (devices_seen (source_seen g.H.In.Source.name g.H.In.Source.rest g.H.In.Source.given g.H.In.Source.faults)
    (sink_seen g.H.Out.Sink.name g.H.Out.Sink.taken g.H.Out.Sink.faults) c.open_sinks.new.devices)
    c.in-Err-open_sinks.fault
    c.of-in-Err-open_sinks.result
    (subst (AllByRecursion ReadsOrWrites) (sym same) c.requires.files)
    (subst (λ p. StoppedAtSink p
    (moment g.H.Host.files g.H.Host.said g.H.Host.mute g.H.Host.count g.H.Host.gave
    g.H.Host.known c.args.host.now)
    (moment g.H.Host.files g.H.Host.said g.H.Host.mute g.H.Host.count g.H.Host.gave
    g.H.Host.known c.open_sinks.new.host)
    (devices_seen (source_seen g.H.In.Source.name g.H.In.Source.rest g.H.In.Source.given g.H.In.Source.faults)
    (sink_seen g.H.Out.Sink.name g.H.Out.Sink.taken g.H.Out.Sink.faults) c.open_sinks.new.devices)
    c.in-Err-open_sinks.fault) (sym same)
    (c.in-Err-open_sinks.ensures.err
    (moment g.H.Host.files g.H.Host.said g.H.Host.mute g.H.Host.count g.H.Host.gave
    g.H.Host.known c.args.host.now) c.in_default.ensures.ok))
    (subst (λ p. WereClosed p (length p) 0
    (moment g.H.Host.files g.H.Host.said g.H.Host.mute g.H.Host.count g.H.Host.gave
    g.H.Host.known c.open_sinks.new.host)
    (moment g.H.Host.files g.H.Host.said g.H.Host.mute g.H.Host.count g.H.Host.gave
    g.H.Host.known c.close_sources-in-Err-open_sinks.new.host)
    (devices_seen (source_seen g.H.In.Source.name g.H.In.Source.rest g.H.In.Source.given g.H.In.Source.faults)
    (sink_seen g.H.Out.Sink.name g.H.Out.Sink.taken g.H.Out.Sink.faults) c.open_sinks.new.devices) (λ t. WasKept))
    (sym same)
    (subst (λ n. WereClosed (plan_of c.args.tasks.now) n 0
    (moment g.H.Host.files g.H.Host.said g.H.Host.mute g.H.Host.count g.H.Host.gave
    g.H.Host.known c.open_sinks.new.host)
    (moment g.H.Host.files g.H.Host.said g.H.Host.mute g.H.Host.count g.H.Host.gave
    g.H.Host.known c.close_sources-in-Err-open_sinks.new.host)
    (devices_seen (source_seen g.H.In.Source.name g.H.In.Source.rest g.H.In.Source.given g.H.In.Source.faults)
    (sink_seen g.H.Out.Sink.name g.H.Out.Sink.taken g.H.Out.Sink.faults) c.open_sinks.new.devices) (λ t. WasKept))
    (sym (length-plan_of c.args.tasks.now)) c.close_sources-in-Err-open_sinks.ensures.closed))
    c.of-in-Err-open_sinks.ensures.fault
    (c.of-in-Err-open_sinks.ensures.ends ∙ c.requires.rest ∙ ap (λ p. entries p (course_at_rest [])) (sym same))

pub returns-clause-opened : goal.returns-clause-opened
returns-clause-opened g c =
    all_opened (plan_of c.args.tasks.now)
    (moment g.H.Host.files g.H.Host.said g.H.Host.mute g.H.Host.count g.H.Host.gave
    g.H.Host.known c.args.host.now)
    (moment g.H.Host.files g.H.Host.said g.H.Host.mute g.H.Host.count g.H.Host.gave
    g.H.Host.known c.open_sinks.new.host)
    (devices_seen (source_seen g.H.In.Source.name g.H.In.Source.rest g.H.In.Source.given g.H.In.Source.faults)
    (sink_seen g.H.Out.Sink.name g.H.Out.Sink.taken g.H.Out.Sink.faults) c.open_sinks.new.devices) c.requires.files
    (subst (λ n. WereOpened (plan_of c.args.tasks.now) n n
    (moment g.H.Host.files g.H.Host.said g.H.Host.mute g.H.Host.count g.H.Host.gave
    g.H.Host.known c.args.host.now)
    (moment g.H.Host.files g.H.Host.said g.H.Host.mute g.H.Host.count g.H.Host.gave
    g.H.Host.known c.open_sinks.new.host)
    (devices_seen (source_seen g.H.In.Source.name g.H.In.Source.rest g.H.In.Source.given g.H.In.Source.faults)
    (sink_seen g.H.Out.Sink.name g.H.Out.Sink.taken g.H.Out.Sink.faults) c.open_sinks.new.devices))
    (sym (length-plan_of c.args.tasks.now))
    (c.in_default-open_sinks.ensures.ok
    (moment g.H.Host.files g.H.Host.said g.H.Host.mute g.H.Host.count g.H.Host.gave
    g.H.Host.known c.args.host.now) c.in_default.ensures.ok))
