use Rattle.std.proofs.Common.{arith}
use Rattle.osm_threads.proofs.RowLemmas.{outlets_put}
use Rattle.osm_threads.proofs.meeting.sent_of.Goals as goal

pub returns-clause-rest : goal.returns-clause-rest
returns-clause-rest c =
    let ports = c.index_mut-ports.result.now in
    outlets_put c.args.tasks.now.items c.args.task c.args.port ports
    (record { inlets = ports.inlets; outlets = c.sent_in_row.new.outlets }) _ (let less = c.requires.exists in let long = c.args.tasks.now.ok.0 in omega (arith, less, long))
    c.index_mut-ports.ensures.value c.sent_in_row.ensures.rest
