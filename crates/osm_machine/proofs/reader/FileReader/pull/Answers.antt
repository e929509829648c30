use Rattle.osm_host.specs.Pulls.{source_value}
use Rattle.osm_machine.proofs.ReadingFileLemmas.{opl_pulled, pbf_pulled}
use Rattle.osm_machine.proofs.reader.FileReader.pull.Goals as goal

pub returns-in-Opl-clause-pulled : goal.returns-in-Opl-clause-pulled
returns-in-Opl-clause-pulled g c =
    opl_pulled (source_value g.S.Source.rest g.S.Source.given g.S.Source.faults c.args.source.now)
    (source_value g.S.Source.rest g.S.Source.given g.S.Source.faults c.pull.new.source) c.args.self.now c.in-Opl.reader
    c.pull.new.self c.pull.result c.in-Opl.is c.requires c.pull.ensures.ok c.pull.ensures.pulled

pub returns-in-Pbf-clause-pulled : goal.returns-in-Pbf-clause-pulled
returns-in-Pbf-clause-pulled g c =
    pbf_pulled (source_value g.S.Source.rest g.S.Source.given g.S.Source.faults c.args.source.now)
    (source_value g.S.Source.rest g.S.Source.given g.S.Source.faults c.pull-in-Pbf.new.source) c.args.self.now
    c.in-Pbf.reader c.pull-in-Pbf.new.self c.pull-in-Pbf.result c.in-Pbf.is c.requires c.pull-in-Pbf.ensures.ok
    c.pull-in-Pbf.ensures.pulled
