-- Queues as contracts see them.
-- Here a queue is the list of its messages and its store; the code has them in a ring.
use Rattle.std.specs.Prelude.{ℕ, ◌≤◌, List, length, Bool, true, false, nat_le, ⊤}
use Rattle.osm_entity.specs.declared.stream.Message.{Message}
use Rattle.osm_graph.specs.declared.pipe.Store.{Store}
use Rattle.osm_graph.specs.declared.pipe.Store.TheVariants.{Bounded, Spool}

-- a queue: the messages that it holds, the next to be taken first, and the store of its pipe
pub record QueueValue : Type 0 where
  pub messages : List Message
  pub store : Store

-- a store that holds this many messages has no room for one more
abbrev pub is_filled : Store → ℕ → Bool
is_filled (Bounded capacity) count = nat_le capacity count
is_filled Spool count = false

-- a store has a capacity
abbrev pub is_bounded : Store → Bool
is_bounded (Bounded capacity) = true
is_bounded Spool = false

-- the messages of a bounded store are within its capacity, and there is a place for each message up to it
abbrev pub IsReserved : Store → List Message → (places : ℕ) → Type 0
IsReserved (Bounded capacity) messages places = (length messages ≤ capacity) × (capacity ≤ places)
IsReserved Spool messages places = ⊤
