use Rattle.osm_machine.proofs.writer.FileWriter.put.Goals as goal

pub returns-in-Pbf-clause-some : goal.returns-in-Pbf-clause-some
returns-in-Pbf-clause-some g c = rw c.in-Pbf.is c.put-in-Pbf.ensures.some
