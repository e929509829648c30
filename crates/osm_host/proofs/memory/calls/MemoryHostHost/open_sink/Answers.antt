use Rattle.osm_host.specs.Tallies.{names_in}
use Rattle.osm_host.proofs.Entered.{known-failed}
use Rattle.osm_host.proofs.memory.calls.MemoryHostHost.open_sink.Goals as goal

pub returns-then-fails-clause-known : goal.returns-then-fails-clause-known
returns-then-fails-clause-known c =
    known-failed c.args.name.now (names_in c.args.self.now.tallies) (names_in c.enter.new.self)
    (names_in c.fail.new.self)
    c.enter.ensures.keeps c.enter.ensures.only c.in_ok-enter.ensures.own c.fail.ensures.known
