use Rattle.osm_threads.proofs.PortLemmas.{messages_more, open_in_row, within_row}
use Rattle.osm_threads.proofs.ports.give_at.Goals as goal

pub returns-clause-given : goal.returns-clause-given
returns-clause-given g c = λ given.
    let row = c.args.outlets.now.items in
    let port = c.index_mut-outlet.result.now in
    let value = c.index_mut-outlet.ensures.value in
    rw (c.give.ensures.given given) (messages_more row c.args.port port c.args.message value
    (within_row row c.args.port c.requires.there) (open_in_row row c.args.port port value c.requires.there c.requires.open))
