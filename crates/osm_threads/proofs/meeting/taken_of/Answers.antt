use Rattle.std.proofs.Common.{arith}
use Rattle.osm_threads.proofs.RowLemmas.{inlets_put}
use Rattle.osm_threads.proofs.meeting.taken_of.Goals as goal

pub returns-clause-rest : goal.returns-clause-rest
returns-clause-rest c =
    let ports = c.index_mut-ports.result.now in
    inlets_put c.args.tasks.now.items c.args.task c.args.port ports
    (record { inlets = c.taken_in_row.new.inlets; outlets = ports.outlets }) _ (let less = c.requires.exists in let long = c.args.tasks.now.ok.0 in omega (arith, less, long))
    c.index_mut-ports.ensures.value c.taken_in_row.ensures.rest
