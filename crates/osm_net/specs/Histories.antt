-- What happened in a network since it was made: a history, and the moves that add to it.
-- Here all that ever passed a pipe is one list; the code has only what is queued.
use Rattle.std.specs.Prelude.{◌≡◌, ℕ, ◌<◌, ◌+◌, ◌==◌, List, [], ◌∷◌, ◌++◌, length, take, Bool, true, false, if◌then◌else◌, ⊤}
use Rattle.osm_entity.specs.Machines.{Given, nothing_given, with_piece}
use Rattle.osm_entity.specs.Ports.{Ports, stream_of}
use Rattle.osm_entity.specs.Streams.{Stream}
use Rattle.osm_entity.specs.declared.stream.Message.{Message}
use Rattle.osm_graph.specs.Pipes.{pipe_into, pipe_out}
use Rattle.osm_graph.specs.declared.pipe.Pipe.{Pipe}
use Rattle.osm_net.specs.Meaning.{at_pipe, sum_below}

-- by pipe: the messages that were sent, and how many of them were taken; by task: what came of its source
pub record History (M : Type 0) : Type 0 where
  pub sent : ℕ → List Message
  pub taken : ℕ → ℕ
  pub given : ℕ → Given M

-- the history of machines that are just made: nothing was sent, taken or pulled
abbrev pub new_history : {M : Type 0} → (ℕ → M) → History M
new_history machine = record { sent = λ p. []; taken = λ p. 0; given = λ t. nothing_given (machine t) }

-- the messages that were taken of a pipe
abbrev pub messages_taken : {M : Type 0} → History M → ℕ → List Message
messages_taken h p = take (h.taken p) (h.sent p)

-- the messages that a task took, by input
abbrev pub took_by : {M : Type 0} → List Pipe → History M → (task : ℕ) → Ports
took_by pipes h task port = at_pipe [] (messages_taken h) (pipe_into pipes task port)

-- the messages that a task gave, by output
abbrev pub gave_by : {M : Type 0} → List Pipe → History M → (task : ℕ) → Ports
gave_by pipes h task port = at_pipe [] h.sent (pipe_out pipes task port)

-- the streams that a task took, by input
abbrev pub streams_taken : {M : Type 0} → List Pipe → History M → (task : ℕ) → ℕ → Stream
streams_taken pipes h task port = stream_of (took_by pipes h task port)

-- a move: one message is taken of a pipe, or given into it; or a task with this limit pulls a piece, or the end
pub data Move : Type 0 where
  Took : (pipe : ℕ) → Move
  Gave : (pipe : ℕ) → (message : Message) → Move
  Pulled : (task limit : ℕ) → (piece : List ℕ) → (came : Bool) → Move

-- the history with a move more
abbrev pub with_move : {M : Type 0} → History M → Move → History M
with_move h (Took pipe) = record h { taken = λ p. if p == pipe then h.taken p + 1 else h.taken p }
with_move h (Gave pipe message) =
    record h { sent = λ p. if p == pipe then h.sent p ++ message ∷ [] else h.sent p }
with_move h (Pulled task limit piece came) =
    record h { given = λ t. if t == task then with_piece limit piece came (h.given t) else h.given t }

-- the history with some moves more
abbrev pub with_moves : {M : Type 0} → History M → List Move → History M
with_moves h [] = h
with_moves h (move ∷ moves) = with_moves (with_move h move) moves

-- a move may follow a history: over a pipe that exists, or a pull of a task that reads and whose last pull hasn't come
abbrev pub MayFollow : {M : Type 0} → (tasks pipes : ℕ) → (ℕ → Bool) → History M → Move → Type 0
MayFollow tasks pipes reads h (Took pipe) = pipe < pipes
MayFollow tasks pipes reads h (Gave pipe message) = pipe < pipes
MayFollow tasks pipes reads h (Pulled task limit piece came) =
    (task < tasks) × ((reads task ≡ true) × ((h.given task).over ≡ false))

-- each of some moves may follow those before it
abbrev pub MayFollowAll : {M : Type 0} → (tasks pipes : ℕ) → (ℕ → Bool) → History M → List Move → Type 0
MayFollowAll tasks pipes reads h [] = ⊤
MayFollowAll tasks pipes reads h (move ∷ moves) =
    MayFollow tasks pipes reads h move × MayFollowAll tasks pipes reads (with_move h move) moves

-- how many of some moves are pulls
abbrev pub pulls_in : List Move → ℕ
pulls_in [] = 0
pulls_in (Took pipe ∷ moves) = pulls_in moves
pulls_in (Gave pipe message ∷ moves) = pulls_in moves
pulls_in (Pulled task limit piece came ∷ moves) = pulls_in moves + 1

-- the most pulls of the tasks that read: one for each byte that came, and one more for each task
abbrev pub most_pulls : {M : Type 0} → (tasks : ℕ) → (ℕ → Bool) → History M → ℕ
most_pulls tasks reads h = sum_below (λ t. if reads t then length (h.given t).bytes + 1 else 0) tasks
