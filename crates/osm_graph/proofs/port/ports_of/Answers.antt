use Rattle.std.proofs.lemmas.List.Elements.{AllWithin-more, at_read}
use Rattle.osm_tasks.specs.Tasks.{IsTask}
use Rattle.osm_graph.specs.Ports.{ports_of}
use Rattle.osm_graph.proofs.StepLemmas.{ports-step}
use Rattle.osm_graph.proofs.port.ports_of.Goals as goal

pub loop-at-preserved : goal.loop-at-preserved
loop-at-preserved c = record {
  ports = ports-step c.args.tasks.now c.loop-at.at c.in_ok-number.number c.index-tasks-at.result
      (ports_of c.args.tasks.now) c.loop-at.ports c.push_task.new.ports c.loop-at-test.true c.index-tasks-at.is
      c.in_ok-number.ensures.ok c.in_ok-push_task.ensures.ok c.loop-at.invariant.ports;
  kept = AllWithin-more IsTask c.args.tasks.now 0 c.loop-at.at c.loop-at.invariant.kept
      (at_read c.args.tasks.now IsTask c.loop-at.at c.index-tasks-at.result c.loop-at-test.true c.index-tasks-at.is
      c.kept.ensures);
}
