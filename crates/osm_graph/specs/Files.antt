-- Tasks that would share a file of which one is a writer.
-- Here each task is held against all earlier ones; the code does the same.
use Rattle.std.specs.Prelude.{ℕ, ◌+◌, List, [], ◌∷◌, ◌++◌, Bool, false, ◌&&◌, ◌||◌, Option, Some, None, position}
use Rattle.std.specs.Option.{option_map, option_or}
use Rattle.std.specs.Str.{bytes_eq}
use Rattle.osm_tasks.specs.Kinds.{file_of, writes_file}
use Rattle.osm_tasks.specs.Tasks.{TaskValue}
use Rattle.osm_tasks.specs.declared.kind.TaskKind.{TaskKind}
use Rattle.osm_graph.specs.declared.fault.GraphError.{GraphError}
use Rattle.osm_graph.specs.declared.fault.GraphError.TheVariants.{SameFile}

-- two files, where there are two, have one name
abbrev pub are_same_file : Option (List ℕ) → Option (List ℕ) → Bool
are_same_file None other = false
are_same_file (Some name) None = false
are_same_file (Some name) (Some other) = bytes_eq name other

-- two kinds have one file, and one of the two writes it
abbrev pub clashes : TaskKind → TaskKind → Bool
clashes one other = are_same_file (file_of one) (file_of other) && (writes_file one || writes_file other)

-- the fault of the task of this number, where an earlier one has its file
abbrev pub task_clash : ℕ → TaskValue → List TaskValue → Option GraphError
task_clash n task earlier = option_map (λ at. SameFile n at) (position (λ t. clashes t.kind task.kind) earlier)

-- the fault of the first of some tasks that has the file of an earlier one; the first of them has this number
abbrev pub file_fault_from : ℕ → (earlier tasks : List TaskValue) → Option GraphError
file_fault_from n earlier [] = None
file_fault_from n earlier (task ∷ tasks) =
    option_or (task_clash n task earlier) (file_fault_from (n + 1) (earlier ++ task ∷ []) tasks)

-- the fault of the lowest task that has the file of an earlier one, with the lowest such earlier one
abbrev pub file_fault : List TaskValue → Option GraphError
file_fault tasks = file_fault_from 0 [] tasks
