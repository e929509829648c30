-- The exit status of a run.
-- Here each fault has its code side by side; the program ends with the code alone.
use Rattle.std.specs.Prelude.{ℕ}
use Rattle.osm_report.specs.declared.fault.Fault.{Fault}
use Rattle.osm_report.specs.declared.fault.Fault.TheVariants.{Clean, Words, Task, Graph, Buffering, Input, TooLong, Device, Memory}

-- the exit status by the fault: 0 clean, 2 a refused command, 3 a bare circle, 4 a wrong input, 5 a failed device,
-- 6 out of memory
abbrev pub code_of : Fault → ℕ
code_of Clean = 0
code_of (Words error) = 2
code_of (Task error) = 2
code_of (Graph error) = 2
code_of (Buffering circle) = 3
code_of (Input task cause spot) = 4
code_of (TooLong task) = 4
code_of (Device task call) = 5
code_of Memory = 6
