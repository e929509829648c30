-- What a run of machines over a graph promises, whoever runs them.
-- Here a run is told by its history; neither its order nor its queues are in it.
use Rattle.std.specs.Prelude.{◌≡◌, ◌≢◌, ℕ, ◌<◌, ◌≤◌, ◌+◌, ◌*◌, List, length, get_or, Bool, true, false}
use Rattle.osm_entity.specs.Machines.{Meanings, IsNew, IsSameTask, WrotePrefix, WroteAll}
use Rattle.osm_entity.specs.Ports.{fixed, stream_of, AreBefore}
use Rattle.osm_entity.specs.Streams.{Stream, IsBefore}
use Rattle.osm_entity.specs.declared.verdict.Verdict.TheVariants.{Write}
use Rattle.osm_graph.specs.declared.pipe.Pipe.{Pipe}
use Rattle.osm_net.specs.Histories.{History, messages_taken, most_pulls, streams_taken}
use Rattle.osm_net.specs.Meaning.{TaskCourse, IsMeaning, messages_in, rules_of, streams_into, bytes_written, verdict_by}
use Rattle.osm_net.specs.Nets.{AllEnded, AreStanding, IsGraphOf}

-- the machines of a graph are new: each stands for no message and no byte
pub record AreTasks {M : Type 0} (of : Meanings M) (tasks : ℕ) (pipes : List Pipe) (machine : ℕ → M) : Type 0 where
  pub graph : IsGraphOf of tasks machine pipes
  pub new : (t : ℕ) → t < tasks → IsNew of (machine t)

-- the task of each machine, with what came of its source by a history
abbrev pub course_of : {M : Type 0} → Meanings M → (ℕ → M) → History M → ℕ → TaskCourse
course_of of machine h t = record { task = of.task (machine t); bytes = (h.given t).bytes; came = (h.given t).came }

-- the streams of the pipes are what a graph means by the bytes that came in a history
abbrev pub IsMeant : {M : Type 0} → Meanings M → List Pipe → (ℕ → M) → History M → (ℕ → Stream) → Type 0
IsMeant of pipes machine h streams = IsMeaning pipes (rules_of (course_of of machine h)) streams

-- what was sent over each pipe, and taken of it, is a whole stream: the one that is meant
pub record IsAsMeant {M : Type 0} (pipes : List Pipe) (streams : ℕ → Stream) (h : History M) : Type 0 where
  pub sent : (p : ℕ) → p < length pipes → h.sent p ≡ fixed true (streams p)
  pub taken : (p : ℕ) → p < length pipes → messages_taken h p ≡ fixed true (streams p)
  pub inputs : (task : ℕ) → streams_taken pipes h task ≡ streams_into pipes streams task

-- what was sent over each pipe, and taken of it, is before the stream that is meant
pub record IsBeforeMeant {M : Type 0} (pipes : List Pipe) (streams : ℕ → Stream) (h : History M) : Type 0 where
  pub sent : (p : ℕ) → p < length pipes → IsBefore (stream_of (h.sent p)) (streams p)
  pub inputs : (task : ℕ) → AreBefore (streams_taken pipes h task) (streams_into pipes streams task)

-- all is as meant at the end: what passed the pipes and, unless a put failed, what was written, and the verdicts
pub record IsWholeRun {M : Type 0} (of : Meanings M) (tasks : ℕ) (pipes : List Pipe) (machine : ℕ → M)
    (h : History M) (streams : ℕ → Stream) : Type 0 where
  pub passed : IsAsMeant pipes streams h
  pub wrote : (t : ℕ) → t < tasks → of.verdict (machine t) ≢ Write →
      WroteAll (of.wrote (machine t)) (bytes_written pipes (of.task (machine t)) streams t)
  pub judged : (t : ℕ) → t < tasks → of.verdict (machine t) ≢ Write →
      of.verdict (machine t) ≡ verdict_by pipes (course_of of machine h t) streams t

-- all is before what is meant: what passed the pipes, and what each sink took
pub record IsRunSoFar {M : Type 0} (of : Meanings M) (tasks : ℕ) (pipes : List Pipe) (machine : ℕ → M)
    (h : History M) (streams : ℕ → Stream) : Type 0 where
  pub passed : IsBeforeMeant pipes streams h
  pub wrote : (t : ℕ) → t < tasks →
      WrotePrefix (of.wrote (machine t)) (bytes_written pipes (of.task (machine t)) streams t)

-- what a run leaves, by its history: all is before what is meant; unless it was out of memory all tasks have ended,
-- they stand for all that was sent, and all is as meant
pub record IsRunOf {M : Type 0} (of : Meanings M) (tasks : ℕ) (pipes : List Pipe) (machine : ℕ → M) (memory : Bool)
    (h : History M) : Type 0 where
  pub so_far : (streams : ℕ → Stream) → IsMeant of pipes machine h streams → IsRunSoFar of tasks pipes machine h streams
  pub devices : (t : ℕ) → t < tasks → of.devices (machine t) (h.given t)
  pub stand : memory ≡ false → AreStanding of tasks pipes machine h
  pub ended : memory ≡ false → AllEnded of tasks machine
  pub all_taken : memory ≡ false → (p : ℕ) → p < length pipes → h.taken p ≡ length (h.sent p)
  pub whole : memory ≡ false →
      (streams : ℕ → Stream) → IsMeant of pipes machine h streams → IsWholeRun of tasks pipes machine h streams

-- what a run promises of machines before and after it: as many, of the same tasks, and a history from the machines as
-- they were made to what the run leaves; what is at no task is free
pub record AreRun {M : Type 0} (of : Meanings M) (pipes : List Pipe) (before after : List M) (memory : Bool) : Type 0
  where
    pub count : length after ≡ length before
    pub same : (t : ℕ) (d : M) → t < length before → IsSameTask of (get_or before t d) (get_or after t d)
    pub history : M → History M
    pub made : (t : ℕ) (d : M) → t < length before → ((history d).given t).made ≡ get_or before t d
    pub run : (d : M) → IsRunOf of (length before) pipes (λ t. get_or after t d) memory (history d)

-- what a run on one thread promises also of its steps, one for each message that is sent or taken and for each pull:
-- two for each message that is meant, and the pulls, which are no more than one for each byte that came and one more
-- for each task that reads; out of memory there may be fewer
pub record AreCountedRun {M : Type 0} (of : Meanings M) (reads : M → Bool) (pipes : List Pipe) (before after : List M)
    (memory : Bool) (steps : ℕ) : Type 0 where
  pub run : AreRun of pipes before after memory
  pub most : (d : M) (streams : ℕ → Stream) → IsMeant of pipes (λ t. get_or after t d) (run.history d) streams →
      steps ≤ 2 * messages_in pipes streams
      + most_pulls (length before) (λ t. reads (get_or before t d)) (run.history d)
  pub least : memory ≡ false → (d : M) (streams : ℕ → Stream) →
      IsMeant of pipes (λ t. get_or after t d) (run.history d) streams → 2 * messages_in pipes streams ≤ steps

-- the machines of a list are new, and those of a graph's tasks
abbrev pub AreNewMachines : {M : Type 0} → Meanings M → List Pipe → List M → Type 0
AreNewMachines of pipes machines = (d : _) → AreTasks of (length machines) pipes (λ t. get_or machines t d)

-- each machine of a list has the name that it had
abbrev pub KeepNames : {M N : Type 0} → (M → N) → (before after : List M) → Type 0
KeepNames names before after =
    (t : ℕ) (d : _) → t < length before → names (get_or after t d) ≡ names (get_or before t d)
