use Rattle.std.proofs.Common.{◌≡◌, List, ◌++◌, drop}
use Rattle.std.specs.Prelude.{flat_map}
use Rattle.std.specs.List.{enumerate_from}
use Rattle.osm_report.specs.declared.fault.Fault.{Fault}
use Rattle.osm_run.specs.Course.{first_fault}
use Rattle.osm_run.specs.Went.{verdict_faults}
use Rattle.osm_run.proofs.machines.first_of.Given as goal

abbrev pub invariant-loop-task : goal.invariant-loop-task
invariant-loop-task l = (more : List Fault) →
    first_fault (flat_map verdict_faults (enumerate_from 0 l.verdicts) ++ more)
    ≡ first_fault (flat_map verdict_faults (enumerate_from l.task (drop l.task l.verdicts)) ++ more)
