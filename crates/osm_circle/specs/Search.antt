-- Which senses a bare circle may have, which of them are marked as live, and how a walk goes on.
-- Here marks are told of all senses; the code keeps an array for each way to take a pipe.
use Rattle.std.specs.Prelude.{◌≡◌, ◌≢◌, ℕ, ◌+◌, ◌<◌, Bool, true, false, if◌then◌else◌, Option, Some, None, List, length, get_or, All, AllPairs, sum_by}
use Rattle.osm_circle.specs.declared.circle.Sense.{Sense}
use Rattle.osm_graph.specs.declared.pipe.Pipe.{Pipe}
use Rattle.osm_circle.specs.declared.live.Live.{Live}
use Rattle.osm_graph.specs.Pipes.{pipe_of}
use Rattle.osm_circle.specs.Circles.{IsClosedWalk, is_spool, sense_end, sense_start}

-- each pipe leads to a later task
abbrev pub IsForward : List Pipe → Type 0
IsForward pipes = (p : ℕ) → p < length pipes → (pipe_of pipes p).from < (pipe_of pipes p).to

-- a bare circle may have a sense: it is over a pipe that exists, and not along a spool
pub record IsUsable (pipes : List Pipe) (s : Sense) : Type 0 where
  pub known : s.pipe < length pipes
  pub bare : s.along ≡ true → is_spool (pipe_of pipes s.pipe).store ≡ false

-- a sense is marked as live
abbrev pub is_live : Live → Sense → Bool
is_live live s = if s.along then get_or live.along s.pipe false else get_or live.against s.pipe false

-- a mark as a number
abbrev pub mark : Bool → ℕ
mark marked = if marked then 1 else 0

-- how many senses are marked as live
abbrev pub live_count : Live → ℕ
live_count live = sum_by mark live.along + sum_by mark live.against

-- a walk goes on with a sense that starts where its last one ends, over another pipe; an empty one with a sense along
abbrev pub CanFollow : List Pipe → Option Sense → Sense → Type 0
CanFollow pipes None next = next.along ≡ true
CanFollow pipes (Some last) next = (sense_start pipes next ≡ sense_end pipes last) × (next.pipe ≢ last.pipe)

-- usable senses over different pipes lead from a task back to it
pub record IsRing (pipes : List Pipe) (senses : List Sense) : Type 0 where
  pub long : 0 < length senses
  pub usable : All (IsUsable pipes) senses
  pub different : AllPairs (λ s t. s.pipe ≢ t.pipe) senses
  pub closed : IsClosedWalk pipes senses
