use Rattle.osm_threads.proofs.PortLemmas.{messages_more, open_in_row, within_row}
use Rattle.osm_threads.proofs.ports.take_at.Goals as goal

pub returns-clause-taken : goal.returns-clause-taken
returns-clause-taken g c =
    let row = c.args.inlets.now.items in
    let port = c.index_mut-inlet.result.now in
    let value = c.index_mut-inlet.ensures.value in
    rw c.take.ensures (messages_more row c.args.port port c.take.result value (within_row row c.args.port c.requires.there)
    (open_in_row row c.args.port port value c.requires.there c.requires.open))
