use Rattle.std.proofs.Common.{length, subst, sym, ◌≤◌, ◌∙◌}
use Rattle.osm_graph.specs.Graphs.{most_joined_tasks}
use Rattle.osm_net.specs.Runs.{AreNewMachines, AreRun, KeepNames}
use Rattle.osm_threads.proofs.BackLemmas.{stayed_machines}
use Rattle.osm_threads.proofs.running.run_here.Goals as goal

pub run_counted-requires-clause-tasks : goal.run_counted-requires-clause-tasks
run_counted-requires-clause-tasks g c =
    let stayed = stayed_machines g.M.TaskMachine.of g.M.TaskMachine.names c.args.starts.value.items
    c.args.backs.value.items c.requires.backs in
    subst (AreNewMachines g.M.TaskMachine.of c.args.pipes.now) (sym (c.requires.machines ∙ stayed)) c.requires.tasks

pub run_counted-requires-clause-few_tasks : goal.run_counted-requires-clause-few_tasks
run_counted-requires-clause-few_tasks g c =
    let stayed = stayed_machines g.M.TaskMachine.of g.M.TaskMachine.names c.args.starts.value.items
    c.args.backs.value.items c.requires.backs in
    subst (λ ms. length ms ≤ most_joined_tasks) (sym (c.requires.machines ∙ stayed)) c.requires.few_tasks

pub returns-clause-run : goal.returns-clause-run
returns-clause-run g c =
    let stayed = stayed_machines g.M.TaskMachine.of g.M.TaskMachine.names c.args.starts.value.items
    c.args.backs.value.items c.requires.backs in
    let ran = c.run_counted in
    subst (λ ms. AreRun g.M.TaskMachine.of c.args.pipes.now ms ran.result.machines.items ran.result.memory)
    (c.requires.machines ∙ stayed) ran.ensures.run

pub returns-clause-names : goal.returns-clause-names
returns-clause-names g c =
    let stayed = stayed_machines g.M.TaskMachine.of g.M.TaskMachine.names c.args.starts.value.items
    c.args.backs.value.items c.requires.backs in
    let ran = c.run_counted in
    subst (λ ms. KeepNames g.M.TaskMachine.names ms ran.result.machines.items) (c.requires.machines ∙ stayed)
    ran.ensures.names
