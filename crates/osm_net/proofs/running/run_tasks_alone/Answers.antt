use Rattle.std.proofs.Common.{arith, false, subst, sym, true, ◌-◌}
use Rattle.osm_net.specs.Histories.{new_history}
use Rattle.osm_net.specs.Networks.{machine_of}
use Rattle.osm_net.specs.Runs.{AreCountedRun}
use Rattle.osm_net.proofs.AloneLemmas.{ended_net, run_of, stands_before, stopped_net, unmade_counted}
use Rattle.osm_net.proofs.running.run_tasks_alone.Goals as goal

pub run_alone-requires-clause-stands : goal.run_alone-requires-clause-stands
run_alone-requires-clause-stands g c = λ d.
    (new_history (machine_of c.args.machines.items d), c.in-Ok.ensures.stands d)

pub returns-in-Ok-run_alone-clause-run : goal.returns-in-Ok-run_alone-clause-run
returns-in-Ok-run_alone-clause-run g c =
    let made = c.in-Ok.ensures.made in
    run_of g.M.TaskMachine.of (λ m. g.M.TaskMachine.reads (g.M.TaskMachine.names m)) c.in-Ok.net c.args.pipes.now
    c.args.machines.items c.run_alone.new.self.machines c.finish.result.items false
    (c.run_alone.new.steps - c.args.steps.now) made.0 made.1 c.finish.ensures.machines
    (ended_net g.M.TaskMachine.of g.met.M.TaskMachine.lawful g.M.TaskMachine.names
    (λ m. g.M.TaskMachine.reads (g.M.TaskMachine.names m)) c.in-Ok.net c.run_alone.new.self c.run_alone.ensures.same
    c.finish.ensures.net
    (stands_before g.M.TaskMachine.of c.in-Ok.net c.args.machines.items made.1 c.in-Ok.ensures.stands)
    c.args.steps.now c.run_alone.new.steps c.in-Ok-run_alone.ensures.went c.in-Ok-run_alone.ensures.ended)

pub returns-in-Err-run_alone-clause-run : goal.returns-in-Err-run_alone-clause-run
returns-in-Err-run_alone-clause-run g c =
    let made = c.in-Ok.ensures.made in
    run_of g.M.TaskMachine.of (λ m. g.M.TaskMachine.reads (g.M.TaskMachine.names m)) c.in-Ok.net c.args.pipes.now
    c.args.machines.items c.run_alone.new.self.machines c.finish-in-Err-run_alone.result.items true
    (c.run_alone.new.steps - c.args.steps.now) made.0 made.1 c.finish-in-Err-run_alone.ensures.machines
    (stopped_net g.M.TaskMachine.of g.met.M.TaskMachine.lawful g.M.TaskMachine.names
    (λ m. g.M.TaskMachine.reads (g.M.TaskMachine.names m)) c.in-Ok.net c.run_alone.new.self c.run_alone.ensures.same
    c.finish-in-Err-run_alone.ensures.net
    (stands_before g.M.TaskMachine.of c.in-Ok.net c.args.machines.items made.1 c.in-Ok.ensures.stands)
    c.args.steps.now c.run_alone.new.steps c.in-Err-run_alone.ensures.stopped)

pub returns-in-Err-clause-run : goal.returns-in-Err-clause-run
returns-in-Err-clause-run g c =
    subst (λ ms. AreCountedRun g.M.TaskMachine.of (λ m. g.M.TaskMachine.reads (g.M.TaskMachine.names m))
    c.args.pipes.now c.args.machines.items ms true (c.args.steps.now - c.args.steps.now)) (sym c.in-Err.ensures.back)
    (unmade_counted g.M.TaskMachine.of g.met.M.TaskMachine.lawful
    (λ m. g.M.TaskMachine.reads (g.M.TaskMachine.names m)) c.args.pipes.now c.args.machines.items
    c.requires.tasks (c.args.steps.now - c.args.steps.now) (omega arith))
