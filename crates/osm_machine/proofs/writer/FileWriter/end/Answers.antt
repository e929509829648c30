use Rattle.osm_machine.proofs.writer.FileWriter.end.Goals as goal

pub returns-in-Pbf-clause-some : goal.returns-in-Pbf-clause-some
returns-in-Pbf-clause-some g c = rw c.in-Pbf.is c.end.ensures.some
