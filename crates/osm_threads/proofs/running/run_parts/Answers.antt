use Rattle.std.proofs.Common.{ap, subst, sym, ◌∙◌}
use Rattle.osm_net.specs.Runs.{AreNewMachines, KeepNames}
use Rattle.osm_threads.specs.Running.{machines_started}
use Rattle.osm_threads.proofs.running.run_parts.Goals as goal

pub settle-requires-clause-new : goal.settle-requires-clause-new
settle-requires-clause-new g c =
    let same = ap (λ starts. machines_started starts.items) c.of-started.ensures ∙ c.make_starts.ensures.machines in
    subst (AreNewMachines g.M.TaskMachine.of c.args.pipes.now) (sym same) c.requires.machines

pub returns-then-all-clause-names : goal.returns-then-all-clause-names
returns-then-all-clause-names g c =
    let same = ap (λ starts. machines_started starts.items) c.of-started.ensures ∙ c.make_starts.ensures.machines in
    subst (λ ms. KeepNames g.M.TaskMachine.names ms c.settle.result.machines.items) same c.settle.ensures.names

pub run_here-requires-clause-tasks : goal.run_here-requires-clause-tasks
run_here-requires-clause-tasks g c =
    let same = ap (λ starts. machines_started starts.items) c.of-started.ensures ∙ c.make_starts.ensures.machines in
    subst (AreNewMachines g.M.TaskMachine.of c.args.pipes.now) (sym same) c.requires.machines

pub returns-clause-names : goal.returns-clause-names
returns-clause-names g c =
    let same = ap (λ starts. machines_started starts.items) c.of-started.ensures ∙ c.make_starts.ensures.machines in
    subst (λ ms. KeepNames g.M.TaskMachine.names ms c.run_here.result.machines.items) same c.run_here.ensures.names
