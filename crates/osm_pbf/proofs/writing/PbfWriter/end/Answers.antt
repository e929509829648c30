use Rattle.osm_pbf.proofs.ClosingLemmas.{end-some}
use Rattle.osm_pbf.proofs.writing.PbfWriter.end.Goals as goal

pub returns-in-Done-clause-some : goal.returns-in-Done-clause-some
returns-in-Done-clause-some g c =
    end-some c.close.result c.args.self.now c.args.end (g.K.Sink.taken c.args.sink.now)
    (g.K.Sink.taken c.close.new.sink) c.in-Done.is c.close.ensures.err
