use Rattle.std.proofs.Common.{◌≡◌}
use Rattle.osm_entity.specs.Machines.{IsSameTask}
use Rattle.osm_threads.specs.Work.{HaveSamePipes, IsAtWork}
use Rattle.osm_threads.proofs.task.drive.Given as goal

abbrev pub invariant-loop : goal.invariant-loop
invariant-loop g l = record {
  work : IsAtWork g.M.TaskMachine.of l.initial.machine l.machine l.ports;
  pipes : HaveSamePipes l.initial.ports l.ports;
  same : IsSameTask g.M.TaskMachine.of l.initial.machine l.machine;
  named : g.M.TaskMachine.names l.machine ≡ g.M.TaskMachine.names l.initial.machine;
}
