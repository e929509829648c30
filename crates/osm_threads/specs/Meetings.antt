-- The meets of all pipes, one by one, after all threads were joined.
-- Here the halves stand where they stood before the meets; the code takes them away from there.
use Rattle.std.specs.Prelude.{◌≡◌, ℕ, ◌<◌, ◌≤◌, List, length, true, Some}
use Rattle.osm_entity.specs.Ports.{has_end}
use Rattle.osm_graph.specs.Pipes.{pipe_into, pipe_of, pipe_out}
use Rattle.osm_graph.specs.declared.pipe.Pipe.{Pipe}
use Rattle.osm_pipe.specs.Pipes.{HalfValue}
use Rattle.osm_threads.specs.Ports.{PortHalf}
use Rattle.osm_threads.specs.Rows.{HaveMet, giving_end, taking_end}

-- the two ends of a pipe have its halves, and its end was sent
pub record MayMeet (giving taking : PortHalf) : Type 0 where
  pub sent : HalfValue
  pub taken : HalfValue
  pub gives : giving ≡ Some sent
  pub takes : taking ≡ Some taken
  pub one : sent.pipe ≡ taken.pipe
  pub closed : has_end sent.list ≡ true

-- no two of these pipes are at one port, and each leads from a task that is there to one that is there
pub record AreApart (pipes : List Pipe) (tasks : ℕ) : Type 0 where
  pub from : (p : ℕ) → p < length pipes → (pipe_of pipes p).from < tasks
  pub to : (p : ℕ) → p < length pipes → (pipe_of pipes p).to < tasks
  pub out : (p : ℕ) → p < length pipes → pipe_out pipes (pipe_of pipes p).from (pipe_of pipes p).from_port ≡ Some p
  pub into : (p : ℕ) → p < length pipes → pipe_into pipes (pipe_of pipes p).to (pipe_of pipes p).to_port ≡ Some p

-- the halves of each pipe may meet
abbrev pub MayAllMeet : List Pipe → (inlets outlets : List (List PortHalf)) → Type 0
MayAllMeet pipes inlets outlets =
    (p : ℕ) → p < length pipes → MayMeet (giving_end outlets pipes p) (taking_end inlets pipes p)

-- the first pipes have met, and the halves of the others stand where they stood
pub record HaveMetSoFar (pipes : List Pipe) (count : ℕ) (inlets outlets inlets_now outlets_now : List (List PortHalf))
    : Type 0 where
  pub met : HaveMet pipes count inlets outlets
  pub giving : (p : ℕ) → count ≤ p → p < length pipes → giving_end outlets_now pipes p ≡ giving_end outlets pipes p
  pub taking : (p : ℕ) → count ≤ p → p < length pipes → taking_end inlets_now pipes p ≡ taking_end inlets pipes p
  pub givers : length outlets_now ≡ length outlets
  pub takers : length inlets_now ≡ length inlets
