use Rattle.std.proofs.Common.{[], ◌∷◌, arith, subst, sym}
use Rattle.osm_net.specs.Nets.{CanHold}
use Rattle.osm_net.specs.Runs.{AreNewMachines}
use Rattle.osm_nets_tests.proofs.ChainLemmas.{chain_alike, chain_can_hold, chain_is_new}
use Rattle.osm_nets_tests.proofs.stepping.chain.Goals as goal

pub new-requires-clause-tasks : goal.new-requires-clause-tasks
new-requires-clause-tasks g c =
    subst (AreNewMachines g.M.TaskMachine.of (c.pipe_after.result ∷ c.pipe_after-2.result ∷ []))
    (sym c.three-machines.ensures)
    (chain_alike (λ pipes. AreNewMachines g.M.TaskMachine.of pipes
    (c.args.reader ∷ c.args.buffer ∷ c.args.writer ∷ [])) c.pipe_after.result c.pipe_after-2.result 1 64
    c.pipe_after.ensures c.pipe_after-2.ensures
    (chain_is_new g.M.TaskMachine.of 1 64 c.args.reader c.args.buffer c.args.writer
    c.requires.new.0 c.requires.new.1 c.requires.new.2 c.requires.reads.0 c.requires.reads.1
    c.requires.passes.0 c.requires.passes.1 c.requires.ends.0 c.requires.ends.1))

pub new-requires-clause-holds : goal.new-requires-clause-holds
new-requires-clause-holds g c = chain_alike CanHold c.pipe_after.result c.pipe_after-2.result 1 64
    c.pipe_after.ensures c.pipe_after-2.ensures (chain_can_hold 1 64 (omega arith) (omega arith))

pub returns-clause-stands : goal.returns-clause-stands
returns-clause-stands g c = λ d. (_, c.in-Ok.ensures.stands d)
