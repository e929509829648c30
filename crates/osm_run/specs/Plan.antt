-- The plan of a run: the files of each task in command order, and the order in which they are opened.
-- Here a plan is a list of lists; the code holds the names of its tasks, and opens file after file.
use Rattle.std.specs.Prelude.{ℕ, List, [], ◌∷◌, ◌++◌, map, Bool, true, false, filter, flat_map}
use Rattle.std.specs.List.{enumerate_from}
use Rattle.std.specs.Str.{bytes_eq}
use Rattle.osm_host.specs.declared.outside.Op.{Op}
use Rattle.osm_host.specs.declared.outside.Op.TheVariants.{Open, Make, Pull, Put, Keep}

-- a file of a task: a polygon file, which is read before the tasks run; a source; a scratch store; or a sink
pub data File : Type 0 where
  Polygon : (name : List ℕ) → File
  Source : (name : List ℕ) → File
  Store : File
  Sink : (name : List ℕ) → File

-- the files of each task in command order; most tasks have none
abbrev pub Plan : Type 0
Plan = List (List File)

-- a file with the number of its task, from 0
abbrev pub Use : Type 0
Use = ℕ × File

-- the tasks of a plan with their numbers, from 0
abbrev pub numbered : Plan → List (ℕ × List File)
numbered plan = enumerate_from 0 plan

-- the files of a task, each with the number of the task
abbrev pub uses_of : ℕ × List File → List Use
uses_of task = map (λ file. (task.0, file)) task.1

-- all files of a plan in command order
abbrev pub uses : Plan → List Use
uses plan = flat_map uses_of (numbered plan)

-- whether this is a polygon file
abbrev pub is_polygon : Use → Bool
is_polygon (task, Polygon name) = true
is_polygon (task, file) = false

-- whether this is a source
abbrev pub is_source : Use → Bool
is_source (task, Source name) = true
is_source (task, file) = false

-- whether this is a scratch store
abbrev pub is_store : Use → Bool
is_store (task, Store) = true
is_store (task, file) = false

-- whether this is a sink
abbrev pub is_sink : Use → Bool
is_sink (task, Sink name) = true
is_sink (task, file) = false

-- the files of a plan in the order in which they are opened: kind after kind, each in command order
abbrev pub openings : Plan → List Use
openings plan =
    filter is_polygon (uses plan) ++ filter is_source (uses plan) ++ filter is_store (uses plan)
    ++ filter is_sink (uses plan)

-- the names of a file: one, or none for a scratch store
abbrev pub names_of : Use → List (List ℕ)
names_of (task, Polygon name) = name ∷ []
names_of (task, Source name) = name ∷ []
names_of (task, Store) = []
names_of (task, Sink name) = name ∷ []

-- whether a file has this name
abbrev pub is_named : List ℕ → Use → Bool
is_named n (task, Polygon name) = bytes_eq n name
is_named n (task, Source name) = bytes_eq n name
is_named n (task, Store) = false
is_named n (task, Sink name) = bytes_eq n name

-- whether this is a sink of this name
abbrev pub is_sink_named : List ℕ → Use → Bool
is_sink_named n (task, Sink name) = bytes_eq n name
is_sink_named n (task, file) = false

-- whether calls of this kind are made on a file
abbrev pub is_called : Op → Use → Bool
is_called Open (task, Polygon name) = true
is_called Pull (task, Polygon name) = true
is_called Open (task, Source name) = true
is_called Pull (task, Source name) = true
is_called Make (task, Sink name) = true
is_called Put (task, Sink name) = true
is_called Keep (task, Sink name) = true
is_called op (task, file) = false
