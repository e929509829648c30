use Rattle.osm_tasks.proofs.ResolveLemmas.{resolve-step}
use Rattle.osm_tasks.proofs.resolving.resolve.Goals as goal

pub loop-at-preserved : goal.loop-at-preserved
loop-at-preserved c =
    resolve-step c.loop-at.at c.in_ok-number.number c.as_slice-list.result.now c.index-list-at.result c.loop-at.tasks
    c.push.new.self c.in_ok-task.task _ c.loop-at-test.true c.index-list-at.is c.in_ok-number.ensures.ok
    c.in_ok-task.ensures.ok c.in_ok-push.ensures.ok c.loop-at.invariant
