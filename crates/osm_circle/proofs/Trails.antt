-- What the search knows after each step: its marks, and the walk so far.
use Rattle.std.proofs.Common.{◌≡◌, ◌≢◌, ℕ, true, List, ◌∷◌, map}
use Rattle.std.specs.Prelude.{All, AllPairs}
use Rattle.osm_graph.specs.declared.pipe.Pipe.{Pipe}
use Rattle.osm_circle.specs.declared.circle.Sense.{Sense}
use Rattle.osm_circle.specs.declared.live.Live.{Live}
use Rattle.osm_circle.specs.Circles.{IsBareCircle, IsWalk, sense_end}
use Rattle.osm_circle.specs.Search.{IsUsable, is_live}

-- the live senses are usable, and each sense of each bare circle is live
pub record IsPruned (pipes : List Pipe) (live : Live) : Type 0 where
  pub usable : (s : Sense) → is_live live s ≡ true → IsUsable pipes s
  pub kept : (circle : List Sense) → IsBareCircle pipes circle → All (λ s. is_live live s ≡ true) circle

-- live senses over different pipes lead from one task to another
pub record IsLine (pipes : List Pipe) (live : Live) (first : ℕ) (walk : List Sense) (last : ℕ) : Type 0 where
  pub leads : IsWalk pipes first walk last
  pub different : AllPairs (λ s t. s.pipe ≢ t.pipe) walk
  pub lives : All (λ s. is_live live s ≡ true) walk

-- the tasks that a walk visits, from the first on
abbrev pub tasks_of : List Pipe → ℕ → List Sense → List ℕ
tasks_of pipes first walk = first ∷ map (sense_end pipes) walk

-- live senses lead from task to task, and to none twice
pub record IsTrail (pipes : List Pipe) (live : Live) (walk : List Sense) : Type 0 where
  pub first : ℕ
  pub last : ℕ
  pub line : IsLine pipes live first walk last
  pub apart : AllPairs (λ a b. a ≢ b) (tasks_of pipes first walk)
