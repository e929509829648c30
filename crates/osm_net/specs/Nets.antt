-- What a network keeps, whatever was moved; and which of its tasks can move.
-- Here a network stands for a history; the code stores machines and queues, and no history.
use Rattle.std.specs.Prelude.{◌≡◌, ◌≢◌, ℕ, ◌<◌, ◌≤◌, List, [], length, drop, IsSomeAnd, ⊤}
use Rattle.osm_entity.specs.Machines.{IsBehind, Meanings, StandsFor}
use Rattle.osm_entity.specs.Ports.{EndsLast}
use Rattle.osm_entity.specs.declared.stream.Message.{Message}
use Rattle.osm_entity.specs.declared.stream.Want.{Want}
use Rattle.osm_entity.specs.declared.stream.Want.TheVariants.{Pull, Take, Give, Ended}
use Rattle.osm_circle.specs.Circles.{IsBareCircle}
use Rattle.osm_circle.specs.declared.circle.Sense.{Sense}
use Rattle.osm_graph.specs.Pipes.{IsWholeGraph, pipe_of, pipe_into, pipe_out}
use Rattle.osm_graph.specs.declared.pipe.Pipe.{Pipe}
use Rattle.osm_graph.specs.declared.pipe.Store.{Store}
use Rattle.osm_graph.specs.declared.pipe.Store.TheVariants.{Bounded, Spool}
use Rattle.osm_net.specs.Histories.{History, took_by, gave_by}

-- the machines are those of a graph's tasks: each port of each has exactly one pipe
abbrev pub IsGraphOf : {M : Type 0} → Meanings M → (tasks : ℕ) → (ℕ → M) → List Pipe → Type 0
IsGraphOf of tasks machine pipes =
    IsWholeGraph tasks (λ t. (of.task (machine t)).inputs) (λ t. (of.task (machine t)).outputs) pipes

-- a history is in order: of each pipe no more was taken than sent, and its end was sent last
pub record IsOrderly {M : Type 0} (pipes : List Pipe) (h : History M) : Type 0 where
  pub within : (p : ℕ) → p < length pipes → h.taken p ≤ length (h.sent p)
  pub ends : (p : ℕ) → p < length pipes → EndsLast (h.sent p)

-- the machines stand for a history: it is in order, and each machine stands for what its task took and gave and for
-- what came of its source
pub record AreStanding {M : Type 0} (of : Meanings M) (tasks : ℕ) (pipes : List Pipe) (machine : ℕ → M)
    (h : History M) : Type 0 where
  pub order : IsOrderly pipes h
  pub stand : (t : ℕ) → t < tasks → StandsFor of (machine t) (took_by pipes h t) (gave_by pipes h t) (h.given t)

-- the machines are behind a history: it is in order, and each machine is behind what its task took
pub record AreBehind {M : Type 0} (of : Meanings M) (tasks : ℕ) (pipes : List Pipe) (machine : ℕ → M)
    (h : History M) : Type 0 where
  pub order : IsOrderly pipes h
  pub behind : (t : ℕ) → t < tasks → IsBehind of (machine t) (took_by pipes h t) (gave_by pipes h t) (h.given t)

-- this many messages fit into a store: a bounded one holds no more than its capacity
abbrev pub FitsStore : Store → ℕ → Type 0
FitsStore (Bounded capacity) count = count ≤ capacity
FitsStore Spool count = ⊤

-- a network stands for a history: its machines do, and each queue fits its store and holds what was sent and not taken
pub record NetStands {M : Type 0} (of : Meanings M) (tasks : ℕ) (pipes : List Pipe) (machine : ℕ → M)
    (queue : ℕ → List Message) (h : History M) : Type 0 where
  pub machines : AreStanding of tasks pipes machine h
  pub queued : (p : ℕ) → p < length pipes → queue p ≡ drop (h.taken p) (h.sent p)
  pub fits : (p : ℕ) → p < length pipes → FitsStore (pipe_of pipes p).store (length (queue p))

-- there is room for one message more in a store that holds this many
abbrev pub HasRoom : Store → ℕ → Type 0
HasRoom (Bounded capacity) count = count < capacity
HasRoom Spool count = ⊤

-- a task that wants this can move: a pull always, a take of a pipe that holds a message, a give into one with room
abbrev pub CanMove : List Pipe → (ℕ → List Message) → (task : ℕ) → Want → Type 0
CanMove pipes queue task Pull = ⊤
CanMove pipes queue task (Take port) = IsSomeAnd (pipe_into pipes task port) (λ p. queue p ≢ [])
CanMove pipes queue task (Give port) =
    IsSomeAnd (pipe_out pipes task port) (λ p. HasRoom (pipe_of pipes p).store (length (queue p)))
CanMove pipes queue task Ended = ⊥

-- all tasks have ended
abbrev pub AllEnded : {M : Type 0} → Meanings M → (tasks : ℕ) → (ℕ → M) → Type 0
AllEnded of tasks machine = (t : ℕ) → t < tasks → of.wanted (machine t) ≡ Ended

-- two functions of numbers agree at all numbers but one
abbrev pub Others : {A : Type 0} → (at : ℕ) → (ℕ → A) → (ℕ → A) → Type 0
Others at old new = (k : ℕ) → k ≢ at → new k ≡ old k

-- each pipe of a graph can hold a message
abbrev pub CanHold : List Pipe → Type 0
CanHold pipes = (p : ℕ) → p < length pipes → HasRoom (pipe_of pipes p).store 0

-- no list of senses is a bare circle of these pipes
abbrev pub HasNoBareCircle : List Pipe → Type 0
HasNoBareCircle pipes = (circle : List Sense) → IsBareCircle pipes circle → ⊥

-- a task of these can move
pub record SomeCanMove {M : Type 0} (of : Meanings M) (tasks : ℕ) (pipes : List Pipe) (machine : ℕ → M)
    (queue : ℕ → List Message) : Type 0 where
  pub task : ℕ
  pub known : task < tasks
  pub moves : CanMove pipes queue task (of.wanted (machine task))
