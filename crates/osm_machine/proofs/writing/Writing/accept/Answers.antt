use Rattle.osm_machine.proofs.WritingLemmas.{empty}
use Rattle.osm_machine.proofs.writing.Writing.accept.Goals as goal

pub returns-in-Item-clause-stops : goal.returns-in-Item-clause-stops
returns-in-Item-clause-stops g c =
    rw (c.in-Item.is, (empty c.args.self.now.end c.args.port c.requires).0) c.put.ensures.stops

pub returns-in-End-clause-stops : goal.returns-in-End-clause-stops
returns-in-End-clause-stops g c =
    rw (c.in-End.is, (empty c.args.self.now.end c.args.port c.requires).0) c.close.ensures.stops
