-- The devices of a run are closed, sources before sinks.
use Rattle.std.proofs.Common.{sym, subst, ◌∙◌, arith}
use Rattle.osm_host.specs.Moments.{moment}
use Rattle.osm_machine.specs.Devices.{source_seen}
use Rattle.osm_machine.specs.Sinks.{sink_seen}
use Rattle.osm_run.specs.Commands.{plan_of}
use Rattle.osm_run.specs.Opened.{devices_seen}
use Rattle.osm_run.specs.Closed.{WasKept, WereClosed, SinksWereKept}
use Rattle.osm_run.proofs.ClosableLemmas.{all_plain, can_keep_all}
use Rattle.osm_run.proofs.SeenLemmas.{length-plan_of, seen_count}
use Rattle.osm_run.proofs.TellingLemmas.{devices_closed}
use Rattle.osm_run.proofs.closing.close_all.Goals as goal

pub keep_sinks-requires-clause-count : goal.keep_sinks-requires-clause-count
keep_sinks-requires-clause-count g c κs lives =
    c.close_sources.auto.devices ∙ seen_count _ c.args.devices.now c.args.tasks.now c.requires.held.count

pub keep_sinks-requires-clause-files : goal.keep_sinks-requires-clause-files
keep_sinks-requires-clause-files g c κs lives =
    all_plain (plan_of c.args.tasks.now) (g.H.Host.known c.args.host.now)
    (devices_seen (source_seen g.H.In.Source.name g.H.In.Source.rest g.H.In.Source.given
    g.H.In.Source.faults) (sink_seen g.H.Out.Sink.name g.H.Out.Sink.taken g.H.Out.Sink.faults)
    c.args.devices.now) c.requires.held

pub keep_sinks-requires-clause-held : goal.keep_sinks-requires-clause-held
keep_sinks-requires-clause-held g c κs lives =
    can_keep_all (plan_of c.args.tasks.now) (g.H.Host.known c.args.host.now)
    (g.H.Host.known c.close_sources.new.host)
    (devices_seen (source_seen g.H.In.Source.name g.H.In.Source.rest g.H.In.Source.given
    g.H.In.Source.faults) (sink_seen g.H.Out.Sink.name g.H.Out.Sink.taken g.H.Out.Sink.faults)
    c.args.devices.now)
    (devices_seen (source_seen g.H.In.Source.name g.H.In.Source.rest g.H.In.Source.given
    g.H.In.Source.faults) (sink_seen g.H.Out.Sink.name g.H.Out.Sink.taken g.H.Out.Sink.faults)
    c.close_sources.new.devices)
    c.requires.held c.close_sources.ensures.closed.known
    (λ t within. c.close_sources.ensures.devices t (omega (arith, within, length-plan_of c.args.tasks.now)))

pub returns-clause-closed : goal.returns-clause-closed
returns-clause-closed g c = λ before opened k m memory are tell.
    devices_closed (plan_of c.args.tasks.now) k m memory before
    (moment g.H.Host.files g.H.Host.said g.H.Host.mute g.H.Host.count g.H.Host.gave
    g.H.Host.known c.args.host.now)
    (moment g.H.Host.files g.H.Host.said g.H.Host.mute g.H.Host.count g.H.Host.gave
    g.H.Host.known c.close_sources.new.host)
    (moment g.H.Host.files g.H.Host.said g.H.Host.mute g.H.Host.count g.H.Host.gave
    g.H.Host.known c.keep_sinks.new.host)
    opened (devices_seen (source_seen g.H.In.Source.name g.H.In.Source.rest g.H.In.Source.given
    g.H.In.Source.faults) (sink_seen g.H.Out.Sink.name g.H.Out.Sink.taken g.H.Out.Sink.faults)
    c.args.devices.now)
    (devices_seen (source_seen g.H.In.Source.name g.H.In.Source.rest g.H.In.Source.given
    g.H.In.Source.faults) (sink_seen g.H.Out.Sink.name g.H.Out.Sink.taken g.H.Out.Sink.faults)
    c.close_sources.new.devices)
    c.keep_sinks.result
    (all_plain (plan_of c.args.tasks.now) (g.H.Host.known c.args.host.now)
    (devices_seen (source_seen g.H.In.Source.name g.H.In.Source.rest g.H.In.Source.given
    g.H.In.Source.faults) (sink_seen g.H.Out.Sink.name g.H.Out.Sink.taken g.H.Out.Sink.faults)
    c.args.devices.now) c.requires.held)
    are tell
    (λ t within. c.close_sources.ensures.devices t (omega (arith, within, length-plan_of c.args.tasks.now)))
    (subst (λ n. WereClosed (plan_of c.args.tasks.now) n 0
    (moment g.H.Host.files g.H.Host.said g.H.Host.mute g.H.Host.count g.H.Host.gave
    g.H.Host.known c.args.host.now)
    (moment g.H.Host.files g.H.Host.said g.H.Host.mute g.H.Host.count g.H.Host.gave
    g.H.Host.known c.close_sources.new.host)
    (devices_seen (source_seen g.H.In.Source.name g.H.In.Source.rest g.H.In.Source.given
    g.H.In.Source.faults) (sink_seen g.H.Out.Sink.name g.H.Out.Sink.taken g.H.Out.Sink.faults)
    c.args.devices.now) (λ t. WasKept)) (sym (length-plan_of c.args.tasks.now)) c.close_sources.ensures.closed)
    (subst (λ n. SinksWereKept (plan_of c.args.tasks.now) n
    (moment g.H.Host.files g.H.Host.said g.H.Host.mute g.H.Host.count g.H.Host.gave
    g.H.Host.known c.close_sources.new.host)
    (moment g.H.Host.files g.H.Host.said g.H.Host.mute g.H.Host.count g.H.Host.gave
    g.H.Host.known c.keep_sinks.new.host)
    (devices_seen (source_seen g.H.In.Source.name g.H.In.Source.rest g.H.In.Source.given
    g.H.In.Source.faults) (sink_seen g.H.Out.Sink.name g.H.Out.Sink.taken g.H.Out.Sink.faults)
    c.close_sources.new.devices) c.keep_sinks.result) (sym (length-plan_of c.args.tasks.now)) c.keep_sinks.ensures.kept)
