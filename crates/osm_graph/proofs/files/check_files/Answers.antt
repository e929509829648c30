use Rattle.std.proofs.Common.{take, refl, ap, sym, ◌∙◌}
use Rattle.osm_graph.specs.Files.{file_fault}
use Rattle.osm_graph.specs.declared.fault.GraphError.TheVariants.{SameFile}
use Rattle.osm_graph.proofs.StepLemmas.{clash-found, clash-none, files-end, files-step}
use Rattle.osm_graph.proofs.files.check_files.Goals as goal

pub returns-in-Some-clause-refused : goal.returns-in-Some-clause-refused
returns-in-Some-clause-refused c =
    λ differ. files-end c.args.tasks.now c.loop-at.at c.index-tasks-at.result (file_fault c.args.tasks.now)
    (SameFile c.in_ok-task.task c.in_ok-earlier.earlier) c.loop-at-test.true c.index-tasks-at.is
    (clash-found c.args.tasks.now (take c.loop-at.at c.args.tasks.now) c.loop-at.at c.in-Some.earlier
    c.in_ok-task.task c.in_ok-earlier.earlier c.task.inside.kind c.index-tasks-at.result
    refl (ap (λ t. t.kind) c.task.view_is)
    (sym c.clash.ensures ∙ c.in-Some.is) c.in_ok-task.ensures.ok c.in_ok-earlier.ensures.ok) c.loop-at.invariant

pub loop-at-preserved : goal.loop-at-preserved
loop-at-preserved c =
    files-step c.args.tasks.now c.loop-at.at c.index-tasks-at.result (file_fault c.args.tasks.now) c.loop-at-test.true
    c.index-tasks-at.is
    (clash-none c.args.tasks.now (take c.loop-at.at c.args.tasks.now) c.loop-at.at c.task.inside.kind
    c.index-tasks-at.result refl (ap (λ t. t.kind) c.task.view_is)
    (sym c.clash.ensures ∙ c.in_default.is)) c.loop-at.invariant
