-- A network as contracts see it: what it keeps, and what one step of a task does.
-- Here a step is a relation of a network before and after; the code changes one machine and one queue in place.
use Rattle.std.specs.Prelude.{◌≡◌, ℕ, ◌<◌, ◌≤◌, ◌+◌, List, [], ◌∷◌, length, get_or, map, Bool, true, false, Some}
use Rattle.osm_entity.specs.Machines.{IsSameTask, Meanings}
use Rattle.osm_entity.specs.declared.stream.Message.{Message}
use Rattle.osm_entity.specs.declared.stream.Want.{Want}
use Rattle.osm_entity.specs.declared.stream.Want.TheVariants.{Take, Give, Ended as WantsNothing}
use Rattle.osm_graph.specs.Graphs.{most_joined_tasks, most_pipes}
use Rattle.osm_graph.specs.Pipes.{pipe_of, pipe_into, pipe_out}
use Rattle.osm_graph.specs.declared.pipe.Pipe.{Pipe}
use Rattle.osm_graph.specs.declared.pipe.Store.TheVariants.{Spool}
use Rattle.osm_net.specs.Histories.{History, MayFollowAll, Move, Took, Gave, Pulled, with_moves}
use Rattle.osm_net.specs.Meaning.{sum_below}
use Rattle.osm_net.specs.Measure.{net_weight}
use Rattle.osm_net.specs.Nets.{AllEnded, AreBehind, CanHold, CanMove, HasRoom, IsGraphOf, NetStands}
use Rattle.osm_net.specs.Queues.{QueueValue}
use Rattle.osm_net.specs.Runs.{KeepNames}
use Rattle.osm_net.specs.declared.stepped.Stepped.{Stepped}
use Rattle.osm_net.specs.declared.stepped.Stepped.TheVariants.{Moved, Full, Empty, Ended}

-- a network: the pipes of a graph, the machines of its tasks, and the queues of its pipes
pub record NetValue (M : Type 0) : Type 0 where
  pub pipes : List Pipe
  pub machines : List M
  pub queues : List QueueValue

-- what stands for a queue where there is none
abbrev pub no_queue : QueueValue
no_queue = record { messages = []; store = Spool }

-- the empty queue of a pipe
abbrev pub empty_queue : Pipe → QueueValue
empty_queue pipe = record { messages = []; store = pipe.store }

-- the messages in the queue of a pipe
abbrev pub queued_in : List QueueValue → ℕ → List Message
queued_in queues p = (get_or queues p no_queue).messages

-- the machine of a task, and this one where there is none
abbrev pub machine_of : {M : Type 0} → List M → M → ℕ → M
machine_of machines none t = get_or machines t none

-- what every network keeps: its machines are those of a graph's tasks, and each pipe can hold a message and has a queue
-- of its store
pub record IsNet {M : Type 0} (of : Meanings M) (n : NetValue M) : Type 0 where
  pub graph : (d : M) → IsGraphOf of (length n.machines) (machine_of n.machines d) n.pipes
  pub can_hold : CanHold n.pipes
  pub few_pipes : length n.pipes ≤ most_pipes
  pub few_tasks : length n.machines ≤ most_joined_tasks
  pub count : length n.queues ≡ length n.pipes
  pub stores : (p : ℕ) → p < length n.pipes → (get_or n.queues p no_queue).store ≡ (pipe_of n.pipes p).store

-- a network stands for a history: its machines and queues do
abbrev pub StandsForHistory : {M : Type 0} → Meanings M → NetValue M → History M → Type 0
StandsForHistory of n h =
    (d : _) → NetStands of (length n.machines) n.pipes (machine_of n.machines d) (queued_in n.queues) h

-- a network stands for some history, where there is a machine at all: no step of it was out of memory
abbrev pub StandsForSome : {M : Type 0} → Meanings M → NetValue M → Type 0
StandsForSome {M} of n = (d : M) → (h : History M) × StandsForHistory of n h

-- which tasks of a network read a source
abbrev pub reads_in : {M : Type 0} → (M → Bool) → List M → M → ℕ → Bool
reads_in reads machines none t = reads (machine_of machines none t)

-- some moves may follow a history of a network
abbrev pub MayGoOn : {M : Type 0} → (M → Bool) → NetValue M → History M → List Move → Type 0
MayGoOn reads n h moves =
    (d : _) → MayFollowAll (length n.machines) (length n.pipes) (reads_in reads n.machines d) h moves

-- a network went on by some moves: whatever history it stood for, they may follow it, and it stands for it with them
pub record NetWentOn {M : Type 0} (of : Meanings M) (reads : M → Bool) (old new : NetValue M) (moves : List Move) :
    Type 0 where
  pub stands : (h : History M) → StandsForHistory of old h → StandsForHistory of new (with_moves h moves)
  pub follow : (h : History M) → StandsForHistory of old h → MayGoOn reads old h moves

-- a number of each machine, by task
abbrev pub number_at_task : {M : Type 0} → (M → ℕ) → List M → ℕ → ℕ
number_at_task number machines t = get_or (map number machines) t 0

-- how many outputs the tasks of machines have together
abbrev pub outputs_of_all : {M : Type 0} → Meanings M → List M → ℕ
outputs_of_all of machines = sum_below (number_at_task (λ m. (of.task m).outputs) machines) (length machines)

-- how much a network can still do
abbrev pub left_in_net : {M : Type 0} → Meanings M → NetValue M → ℕ
left_in_net of n = net_weight (outputs_of_all of n.machines) (length n.machines) n.pipes
    (number_at_task of.left n.machines)
    (queued_in n.queues)

-- a move of a task: a message taken of a pipe into it, or given into one out of it, or its own pull
abbrev pub IsMoveBy : List Pipe → (task : ℕ) → Move → Type 0
IsMoveBy pipes task (Took pipe) = (pipe_of pipes pipe).to ≡ task
IsMoveBy pipes task (Gave pipe message) = (pipe_of pipes pipe).from ≡ task
IsMoveBy pipes task (Pulled reader limit piece came) = reader ≡ task

-- a task moved: the network went on by one move, which was the task's, and has less to do
pub record HasMoved {M : Type 0} (of : Meanings M) (reads : M → Bool) (task : ℕ) (old new : NetValue M) : Type 0 where
  pub move : Move
  pub own : IsMoveBy old.pipes task move
  pub went : NetWentOn of reads old new (move ∷ [])
  pub falls : left_in_net of new < left_in_net of old

-- a network was out of memory: whatever history it stood for, its machines are behind that one with some moves more,
-- which may follow it
pub record HasStopped {M : Type 0} (of : Meanings M) (reads : M → Bool) (old new : NetValue M) : Type 0 where
  pub moves : List Move
  pub behind : (h : History M) → StandsForHistory of old h →
      (d : M) → AreBehind of (length old.machines) old.pipes (machine_of new.machines d) (with_moves h moves)
  pub follow : (h : History M) → StandsForHistory of old h → MayGoOn reads old h moves

-- what a step says of a task that wanted this: it moved; or which pipe is full where it wanted to give, or holds no
-- message where it wanted to take; or it has ended
abbrev pub SaysStep : List Pipe → (ℕ → List Message) → (task : ℕ) → Want → Stepped → Type 0
SaysStep pipes queue task want Moved = CanMove pipes queue task want
SaysStep pipes queue task want (Full p) = (port : ℕ) × ((want ≡ Give port) × ((pipe_out pipes task port ≡ Some p)
    × (HasRoom (pipe_of pipes p).store (length (queue p)) → ⊥)))
SaysStep pipes queue task want (Empty p) =
    (port : ℕ) × ((want ≡ Take port) × ((pipe_into pipes task port ≡ Some p) × (queue p ≡ [])))
SaysStep pipes queue task want Ended = want ≡ WantsNothing

-- a task of a network can't move
abbrev pub IsStuck : {M : Type 0} → Meanings M → NetValue M → (task : ℕ) → Type 0
IsStuck of n task =
    (d : _) → CanMove n.pipes (queued_in n.queues) task (of.wanted (machine_of n.machines d task)) → ⊥

-- what a step of a task of a network says
abbrev pub SaysStepOf : {M : Type 0} → Meanings M → NetValue M → (task : ℕ) → Stepped → Type 0
SaysStepOf of n task stepped =
    (d : _) → SaysStep n.pipes (queued_in n.queues) task (of.wanted (machine_of n.machines d task)) stepped

-- the machines are of the same tasks as before
pub record AreSameTasks {M : Type 0} (of : Meanings M) (old new : List M) : Type 0 where
  pub count : length new ≡ length old
  pub same : (t : ℕ) (d : M) → t < length old → IsSameTask of (machine_of old d t) (machine_of new d t)

-- all tasks of a network have ended
abbrev pub NetEnded : {M : Type 0} → Meanings M → NetValue M → Type 0
NetEnded of n = (d : _) → AllEnded of (length n.machines) (machine_of n.machines d)

-- a network went on, and a count of steps rose by one for each move
pub record WentOnCounted {M : Type 0} (of : Meanings M) (reads : M → Bool) (old new : NetValue M) (before now : ℕ) :
    Type 0 where
  pub moves : List Move
  pub went : NetWentOn of reads old new moves
  pub count : now ≡ before + length moves

-- a network was out of memory, and a count of steps rose by no more than one for each move
pub record StoppedCounted {M : Type 0} (of : Meanings M) (reads : M → Bool) (old new : NetValue M) (before now : ℕ) :
    Type 0 where
  pub stopped : HasStopped of reads old new
  pub least : before ≤ now
  pub most : now ≤ before + length stopped.moves

-- a network ran and says whether a task moved: it has then less to do, and else it is as it was
pub record RanOn {M : Type 0} (of : Meanings M) (reads : M → Bool) (old new : NetValue M) (before now : ℕ)
    (moved : Bool) : Type 0 where
  pub went : WentOnCounted of reads old new before now
  pub falls : moved ≡ true → left_in_net of new < left_in_net of old
  pub still : moved ≡ false → new ≡ old

-- a network has the pipes that it had, and its machines are of the same tasks and names
pub record IsSameNet {M N : Type 0} (of : Meanings M) (names : M → N) (old new : NetValue M) : Type 0 where
  pub pipes : new.pipes ≡ old.pipes
  pub tasks : AreSameTasks of old.machines new.machines
  pub named : KeepNames names old.machines new.machines
