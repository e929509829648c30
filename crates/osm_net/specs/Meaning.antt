-- What a graph of tasks means: over whole streams, task by task in command order.
-- Here each stream is whole at once; the network moves one message at a time, in any order.
use Rattle.std.specs.Prelude.{◌≡◌, ℕ, zero, suc, ◌<◌, ◌+◌, ◌==◌, List, [], length, Bool, Option, Some, None, if◌then◌else◌}
use Rattle.osm_entity.specs.Streams.{Stream}
use Rattle.osm_entity.specs.Tasks.{TaskMeaning, verdict_as}
use Rattle.osm_entity.specs.declared.stream.End.TheVariants.{Broken}
use Rattle.osm_entity.specs.declared.verdict.Verdict.{Verdict}
use Rattle.osm_graph.specs.Pipes.{pipe_of, pipe_into}
use Rattle.osm_graph.specs.declared.pipe.Pipe.{Pipe}

-- a task, and what came of its source: the bytes, and whether their end came
pub record TaskCourse : Type 0 where
  pub task : TaskMeaning
  pub bytes : List ℕ
  pub came : Bool

-- the stream of no messages
abbrev pub no_stream : Stream
no_stream = record { items = []; end = Broken }

-- what is at a port, by what is at each pipe; this, where the port has no pipe
abbrev pub at_pipe : {A : Type 0} → A → (ℕ → A) → Option ℕ → A
at_pipe none each None = none
at_pipe none each (Some p) = each p

-- the streams at the inputs of a task, by the streams of the pipes
abbrev pub streams_into : List Pipe → (ℕ → Stream) → (task : ℕ) → ℕ → Stream
streams_into pipes streams task port = at_pipe no_stream streams (pipe_into pipes task port)

-- what each task makes of the streams at its inputs: the stream at each of its outputs
abbrev pub Rules : Type 0
Rules = ℕ → (ℕ → Stream) → ℕ → Stream

-- the rules of tasks, by what came of their sources
abbrev pub rules_of : (ℕ → TaskCourse) → Rules
rules_of course task inputs port = (course task).task.gives (course task).bytes (course task).came inputs port

-- the stream that a pipe's task puts into it, by the streams of all pipes
abbrev pub stream_put : List Pipe → Rules → (ℕ → Stream) → ℕ → Stream
stream_put pipes rule streams p = rule (pipe_of pipes p).from (streams_into pipes streams (pipe_of pipes p).from)
    (pipe_of pipes p).from_port

-- the streams of the pipes are what the graph means: each is its task's rule of the streams at the task's inputs
pub record IsMeaning (pipes : List Pipe) (rule : Rules) (streams : ℕ → Stream) : Type 0 where
  pub by_rule : (p : ℕ) → p < length pipes → streams p ≡ stream_put pipes rule streams p

-- the streams of the pipes once this many tasks, in command order, have each given their rule of their inputs
abbrev pub streams_by : List Pipe → Rules → (tasks : ℕ) → ℕ → Stream
streams_by pipes rule zero p = no_stream
streams_by pipes rule (suc task) p = if (pipe_of pipes p).from == task
    then stream_put pipes rule (streams_by pipes rule task) p
    else streams_by pipes rule task p

-- the bytes that a task writes, by the streams of the pipes
abbrev pub bytes_written : List Pipe → TaskMeaning → (ℕ → Stream) → (task : ℕ) → List ℕ
bytes_written pipes meaning streams task = meaning.text (streams_into pipes streams task)

-- the verdict of a task, by the streams of the pipes
abbrev pub verdict_by : List Pipe → TaskCourse → (ℕ → Stream) → (task : ℕ) → Verdict
verdict_by pipes course streams task = verdict_as course.task.limit (length course.bytes)
    (course.task.finish course.bytes course.came (streams_into pipes streams task))

-- a sum over the numbers below n
abbrev pub sum_below : (ℕ → ℕ) → (n : ℕ) → ℕ
sum_below f zero = 0
sum_below f (suc n) = sum_below f n + f n

-- how many messages the streams of all pipes have: their items, and an end for each
abbrev pub messages_in : List Pipe → (ℕ → Stream) → ℕ
messages_in pipes streams = sum_below (λ p. length (streams p).items + 1) (length pipes)
