-- The pipes of a graph, and which of them is at a port.
-- Here the pipe at a port is looked up among all pipes; the code that joins them looks up ports.
use Rattle.std.specs.Prelude.{◌≡◌, ◌<◌, ◌==◌, ◌&&◌, ℕ, List, length, get_or, Option, Some, IsSome}
use Rattle.std.specs.List.{position}
use Rattle.osm_entity.specs.declared.kind.Flow.TheVariants.{Entities}
use Rattle.osm_graph.specs.declared.pipe.Pipe.{Pipe}
use Rattle.osm_graph.specs.declared.pipe.Store.TheVariants.{Spool}

-- what stands for a pipe where there is none
abbrev pub no_pipe : Pipe
no_pipe = record { from = 0; from_port = 0; to = 0; to_port = 0; flow = Entities; store = Spool }

-- the pipe of a number
abbrev pub pipe_of : List Pipe → ℕ → Pipe
pipe_of pipes p = get_or pipes p no_pipe

-- the number of the pipe into an input of a task, where there is one
abbrev pub pipe_into : List Pipe → (task port : ℕ) → Option ℕ
pipe_into pipes task port = position (λ pipe. (pipe.to == task) && (pipe.to_port == port)) pipes

-- the number of the pipe out of an output of a task, where there is one
abbrev pub pipe_out : List Pipe → (task port : ℕ) → Option ℕ
pipe_out pipes task port = position (λ pipe. (pipe.from == task) && (pipe.from_port == port)) pipes

-- each pipe leads from an output that is there to an input that is there, of a later task; each port of each task has a
-- pipe, and no two pipes are at one port
pub record IsWholeGraph (tasks : ℕ) (inputs outputs : ℕ → ℕ) (pipes : List Pipe) : Type 0 where
  pub forward : (p : ℕ) → p < length pipes → (pipe_of pipes p).from < (pipe_of pipes p).to
  pub known : (p : ℕ) → p < length pipes → (pipe_of pipes p).to < tasks
  pub from_port : (p : ℕ) → p < length pipes → (pipe_of pipes p).from_port < outputs (pipe_of pipes p).from
  pub to_port : (p : ℕ) → p < length pipes → (pipe_of pipes p).to_port < inputs (pipe_of pipes p).to
  pub alone_out : (p : ℕ) → p < length pipes →
      pipe_out pipes (pipe_of pipes p).from (pipe_of pipes p).from_port ≡ Some p
  pub alone_into : (p : ℕ) → p < length pipes →
      pipe_into pipes (pipe_of pipes p).to (pipe_of pipes p).to_port ≡ Some p
  pub into : (t port : ℕ) → t < tasks → port < inputs t → IsSome (pipe_into pipes t port)
  pub out : (t port : ℕ) → t < tasks → port < outputs t → IsSome (pipe_out pipes t port)
