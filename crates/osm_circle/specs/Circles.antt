-- Walks over pipes, and the circles in which tasks can wait for each other.
-- Here a circle is a whole list of senses; the code walks on from sense to sense, and steps back where none is left.
use Rattle.std.specs.Prelude.{◌≡◌, ◌≢◌, ℕ, ◌<◌, ◌≤◌, Bool, true, false, if◌then◌else◌, List, [], ◌∷◌, length, All, AllPairs, Any}
use Rattle.osm_graph.specs.Pipes.{pipe_of}
use Rattle.osm_circle.specs.declared.circle.Sense.{Sense}
use Rattle.osm_graph.specs.declared.pipe.Pipe.{Pipe}
use Rattle.osm_graph.specs.declared.pipe.Store.{Store}
use Rattle.osm_graph.specs.declared.pipe.Store.TheVariants.{Bounded, Spool}

-- a store takes any number of items
abbrev pub is_spool : Store → Bool
is_spool (Bounded capacity) = false
is_spool Spool = true

-- the task at which a sense starts: along a pipe its giver, and against it its taker
abbrev pub sense_start : List Pipe → Sense → ℕ
sense_start pipes s = if s.along then (pipe_of pipes s.pipe).from else (pipe_of pipes s.pipe).to

-- the task at which a sense ends: along a pipe its taker, and against it its giver
abbrev pub sense_end : List Pipe → Sense → ℕ
sense_end pipes s = if s.along then (pipe_of pipes s.pipe).to else (pipe_of pipes s.pipe).from

-- senses lead from one task to another: each starts at the task at which the one before ended
abbrev pub IsWalk : List Pipe → ℕ → List Sense → ℕ → Type 0
IsWalk pipes from [] to = from ≡ to
IsWalk pipes from (s ∷ rest) to = (sense_start pipes s ≡ from) × IsWalk pipes (sense_end pipes s) rest to

-- senses lead from a task back to it
abbrev pub IsClosedWalk : List Pipe → List Sense → Type 0
IsClosedWalk pipes senses = (task : ℕ) × IsWalk pipes task senses task

-- the pipe of the first of some senses
abbrev pub first_pipe : List Sense → ℕ
first_pipe [] = 0
first_pipe (s ∷ rest) = s.pipe

-- senses are a bare circle: they are two or more, over different pipes of the graph; they lead from a task back to it;
-- at least one is along its pipe, none is along a spool, and the first has the lowest pipe
pub record IsBareCircle (pipes : List Pipe) (circle : List Sense) : Type 0 where
  pub long : 2 ≤ length circle
  pub known : All (λ s. s.pipe < length pipes) circle
  pub different : AllPairs (λ s t. s.pipe ≢ t.pipe) circle
  pub closed : IsClosedWalk pipes circle
  pub along : Any (λ s. s.along ≡ true) circle
  pub bare : All (λ s. s.along ≡ true → is_spool (pipe_of pipes s.pipe).store ≡ false) circle
  pub lowest : All (λ s. first_pipe circle ≤ s.pipe) circle
