-- The polygon file was opened, read and closed.
use Rattle.std.proofs.Common.{take}
use Rattle.std.proofs.lemmas.List.Elements.{Contains-push}
use Rattle.osm_host.specs.Moments.{moment}
use Rattle.osm_machine.specs.Devices.{source_seen}
use Rattle.osm_run.specs.Polygons.{FileWasRead}
use Rattle.osm_run.proofs.ReadFilesLemmas.{area_was_read, area_was_refused, file_was_read}
use Rattle.osm_run.proofs.areas.read_area.Given.{Over}
use Rattle.osm_run.proofs.areas.read_area.Goals as goal

pub close_source-requires-clause-known : goal.close_source-requires-clause-known
close_source-requires-clause-known g c =
    (c.in-Ok.ensures.ok.known c.args.name.now).1 (Contains-push (g.H.Host.known c.args.host.now) c.args.name.now)

was_read : (g : Over) (c : goal.After-drop-read g) → FileWasRead c.args.name.now
    (moment g.H.Host.files g.H.Host.said g.H.Host.mute g.H.Host.count g.H.Host.gave g.H.Host.known c.args.host.now)
    (moment g.H.Host.files g.H.Host.said g.H.Host.mute g.H.Host.count g.H.Host.gave g.H.Host.known
    c.close_source.new.self)
    (take c.read_source-read.result.count c.read_source-read.result.buffer.items) c.read_source-read.result.end
was_read g c = file_was_read c.args.name.now
    (moment g.H.Host.files g.H.Host.said g.H.Host.mute g.H.Host.count g.H.Host.gave g.H.Host.known c.args.host.now)
    (moment g.H.Host.files g.H.Host.said g.H.Host.mute g.H.Host.count g.H.Host.gave g.H.Host.known
    c.open_source.new.host)
    (moment g.H.Host.files g.H.Host.said g.H.Host.mute g.H.Host.count g.H.Host.gave g.H.Host.known
    c.close_source.new.self)
    (source_seen g.H.In.Source.name g.H.In.Source.rest g.H.In.Source.given g.H.In.Source.faults c.in-Ok.source)
    (source_seen g.H.In.Source.name g.H.In.Source.rest g.H.In.Source.given g.H.In.Source.faults
    c.read_source-read.new.source)
    (take c.read_source-read.result.count c.read_source-read.result.buffer.items) c.read_source-read.result.end
    c.in-Ok.ensures.ok c.read_source-read.ensures.read c.close_source.ensures.files c.close_source.ensures.counts
    c.close_source.ensures.gave c.close_source.ensures.known

pub returns-clause-ok : goal.returns-clause-ok
returns-clause-ok g c = area_was_read c.args.name.now
    (moment g.H.Host.files g.H.Host.said g.H.Host.mute g.H.Host.count g.H.Host.gave g.H.Host.known c.args.host.now)
    (moment g.H.Host.files g.H.Host.said g.H.Host.mute g.H.Host.count g.H.Host.gave g.H.Host.known
    c.close_source.new.self)
    (take c.read_source-read.result.count c.read_source-read.result.buffer.items) c.read_source-read.result.end
    c.area_read.result (was_read g c) c.area_read.ensures.ok

pub returns-clause-err : goal.returns-clause-err
returns-clause-err g c = area_was_refused c.args.task c.args.name.now
    (moment g.H.Host.files g.H.Host.said g.H.Host.mute g.H.Host.count g.H.Host.gave g.H.Host.known c.args.host.now)
    (moment g.H.Host.files g.H.Host.said g.H.Host.mute g.H.Host.count g.H.Host.gave g.H.Host.known
    c.close_source.new.self)
    (take c.read_source-read.result.count c.read_source-read.result.buffer.items) c.read_source-read.result.end
    c.area_read.result (was_read g c) c.area_read.ensures.err
