-- The ports of all tasks, and which of them are the two ends of one pipe.
-- Here an end is found by a pipe's numbers of task and port; the code moves a half there, or takes it from there.
use Rattle.std.specs.Prelude.{◌≡◌, ℕ, ◌<◌, List, [], length, get_or, map, Option, Some, None}
use Rattle.osm_graph.specs.Pipes.{pipe_into, pipe_of, pipe_out}
use Rattle.osm_graph.specs.declared.pipe.Pipe.{Pipe}
use Rattle.osm_graph.specs.declared.pipe.Store.{Store}
use Rattle.osm_graph.specs.declared.pipe.Store.TheVariants.{Bounded, Spool}
use Rattle.osm_pipe.specs.Pipes.{Meets, PipeId, half}
use Rattle.osm_threads.specs.Ports.{PortHalf, in_row, passed_at, pipe_at}
use Rattle.osm_threads.specs.declared.ports.TaskPorts.{TaskPorts}

-- how many messages a pipe of this store holds at most, where it is bounded
abbrev pub limit_of : Store → Option ℕ
limit_of (Bounded capacity) = Some capacity
limit_of Spool = None

-- the inputs of all tasks, row by row
abbrev pub inlets_of : List TaskPorts → List (List PortHalf)
inlets_of tasks = map (λ ports. ports.inlets.items) tasks

-- the outputs of all tasks, row by row
abbrev pub outlets_of : List TaskPorts → List (List PortHalf)
outlets_of tasks = map (λ ports. ports.outlets.items) tasks

-- what is at a port of a task
abbrev pub half_at : List (List PortHalf) → (task port : ℕ) → PortHalf
half_at rows task port = in_row (get_or rows task []) port

-- what is where a pipe begins
abbrev pub giving_end : List (List PortHalf) → List Pipe → ℕ → PortHalf
giving_end outlets pipes p = half_at outlets (pipe_of pipes p).from (pipe_of pipes p).from_port

-- what is where a pipe leads
abbrev pub taking_end : List (List PortHalf) → List Pipe → ℕ → PortHalf
taking_end inlets pipes p = half_at inlets (pipe_of pipes p).to (pipe_of pipes p).to_port

-- something was put at one port of a row, and all other ports are as they were
pub record IsPutInRow (old new : List PortHalf) (port : ℕ) (put : PortHalf) : Type 0 where
  pub there : in_row new port ≡ put
  pub others : (q : ℕ) → (q ≡ port → ⊥) → in_row new q ≡ in_row old q

-- something was put at one port of a task, and all other ports of all tasks are as they were
pub record IsPutAt (old new : List (List PortHalf)) (task port : ℕ) (put : PortHalf) : Type 0 where
  pub there : half_at new task port ≡ put
  pub others : (t q : ℕ) → (t ≡ task → q ≡ port → ⊥) → half_at new t q ≡ half_at old t q
  pub count : length new ≡ length old

-- nothing is at any port
pub record HaveNothing (tasks : List TaskPorts) : Type 0 where
  pub inlets : (task port : ℕ) → half_at (inlets_of tasks) task port ≡ None
  pub outlets : (task port : ℕ) → half_at (outlets_of tasks) task port ≡ None

-- two ports are the two ends of one pipe
pub record AreOfOnePipe (giving taking : PortHalf) : Type 0 where
  pub pipe : PipeId
  pub gives : pipe_at giving ≡ Some pipe
  pub takes : pipe_at taking ≡ Some pipe

-- two ports are the two ends of one pipe over which nothing has passed
pub record AreNewEnds (giving taking : PortHalf) : Type 0 where
  pub pipe : PipeId
  pub gives : giving ≡ Some (half pipe [])
  pub takes : taking ≡ Some (half pipe [])

-- no pipe of the first leads to this port
abbrev pub LeadsNowhere : List Pipe → (count task port : ℕ) → Type 0
LeadsNowhere pipes count task port =
    (p : ℕ) → p < count → task ≡ (pipe_of pipes p).to → port ≡ (pipe_of pipes p).to_port → ⊥

-- no pipe of the first begins at this port
abbrev pub BeginsNowhere : List Pipe → (count task port : ℕ) → Type 0
BeginsNowhere pipes count task port =
    (p : ℕ) → p < count → task ≡ (pipe_of pipes p).from → port ≡ (pipe_of pipes p).from_port → ⊥

-- the first pipes of a graph are made: their halves are at their ends, and nothing is at any other port
pub record AreMade (pipes : List Pipe) (count : ℕ) (inlets outlets : List (List PortHalf)) : Type 0 where
  pub made : (p : ℕ) → p < count → AreNewEnds (giving_end outlets pipes p) (taking_end inlets pipes p)
  pub no_inlet : (task port : ℕ) → LeadsNowhere pipes count task port → half_at inlets task port ≡ None
  pub no_outlet : (task port : ℕ) → BeginsNowhere pipes count task port → half_at outlets task port ≡ None

-- the ports of all tasks are joined as the pipes of a graph say, and nothing is at any other port
pub record AreJoined (pipes : List Pipe) (inlets outlets : List (List PortHalf)) : Type 0 where
  pub joined : (p : ℕ) → p < length pipes → AreOfOnePipe (giving_end outlets pipes p) (taking_end inlets pipes p)
  pub no_inlet : (task port : ℕ) → pipe_into pipes task port ≡ None → half_at inlets task port ≡ None
  pub no_outlet : (task port : ℕ) → pipe_out pipes task port ≡ None → half_at outlets task port ≡ None

-- the halves of each pipe have met
abbrev pub HaveMet : List Pipe → (count : ℕ) → (inlets outlets : List (List PortHalf)) → Type 0
HaveMet pipes count inlets outlets =
    (p : ℕ) → p < count → Meets (passed_at (taking_end inlets pipes p)) (passed_at (giving_end outlets pipes p))
