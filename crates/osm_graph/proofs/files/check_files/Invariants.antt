use Rattle.std.proofs.Common.{◌≡◌, take, drop}
use Rattle.osm_graph.specs.Files.{file_fault, file_fault_from}
use Rattle.osm_graph.proofs.files.check_files.Given as goal

abbrev pub invariant-loop-at : goal.invariant-loop-at
invariant-loop-at l = file_fault l.tasks ≡ file_fault_from l.at (take l.at l.tasks) (drop l.at l.tasks)
