-- A machine that reads a file: how contracts see it, what it stands for, and what it means.
-- Here all bytes that came are one list, and all items that were given; the code has one item ready at most.
use Rattle.std.specs.Prelude.{◌≡◌, ◌≢◌, ℕ, ◌+◌, ◌-◌, ◌≤◌, List, [], ◌∷◌, ◌++◌, length, Bool, true, false, None}
use Rattle.osm_entity.specs.Items.{ItemValue}
use Rattle.osm_entity.specs.Machines.{Given, Meanings}
use Rattle.osm_entity.specs.Ports.{fixed}
use Rattle.osm_entity.specs.declared.stream.End.{End}
use Rattle.osm_entity.specs.declared.stream.End.TheVariants.{Done, Broken}
use Rattle.osm_entity.specs.declared.stream.Message.{Message}
use Rattle.osm_entity.specs.declared.stream.Want.{Want}
use Rattle.osm_entity.specs.declared.stream.Want.TheVariants.{Pull, Give, Ended}
use Rattle.osm_entity.specs.declared.verdict.Verdict.{Verdict}
use Rattle.osm_entity.specs.declared.verdict.Verdict.TheVariants.{Running, Clean, Passed, Input, TooLong, Read, Write, Memory}
use Rattle.osm_host.specs.Counts.{raised}
use Rattle.osm_host.specs.Feeds.{FaultsOfPull, reached_end}
use Rattle.osm_host.specs.Pulls.{FeedValue, piece_size}
use Rattle.osm_host.specs.declared.feed.Feed.{Feed}
use Rattle.osm_host.specs.declared.feed.Feed.TheVariants.{Open, Ended as AtEnd, Failed, TooLong as PastLimit}
use Rattle.osm_machine.specs.Devices.{SourceSeen, SourceStands}
use Rattle.osm_machine.specs.ReadingFiles.{FileStands, FileWants, HasGiven, file_fed, file_format, file_verdict}
use Rattle.osm_machine.specs.ReadingFormats.{reader_task}
use Rattle.osm_machine.specs.declared.reader.FileReader.{FileReader}
use Rattle.osm_machine.specs.declared.ready.Ready.{Ready}
use Rattle.osm_machine.specs.declared.ready.Ready.TheVariants.{Next, Nothing, AtTheEnd, Closed, Stopped}

-- a machine that reads: its reader, its source, how many items its reader gave, and what it has ready
pub record ReadingValue : Type 0 where
  pub reader : FileReader
  pub source : SourceSeen
  pub made : ℕ
  pub ready : Ready

-- the item that is ready
abbrev pub ready_items : Ready → List ItemValue
ready_items (Next item) = item ∷ []
ready_items Nothing = []
ready_items AtTheEnd = []
ready_items Closed = []
ready_items Stopped = []

-- whether the end was given
abbrev pub is_closed : Ready → Bool
is_closed (Next item) = false
is_closed Nothing = false
is_closed AtTheEnd = false
is_closed Closed = true
is_closed Stopped = false

-- what a reader may have ready: an item while it runs, nothing where it wants a pull, and the end once it is judged
abbrev pub IsReady : FileReader → Ready → Type 0
IsReady r (Next item) = file_verdict r ≡ Running
IsReady r Nothing = FileWants r
IsReady r AtTheEnd = file_verdict r ≢ Running
IsReady r Closed = file_verdict r ≢ Running
IsReady r Stopped = ⊥

-- the end of what a reader gave, by its verdict: done where all was read cleanly
abbrev pub end_judged : Verdict → End
end_judged Running = Broken
end_judged Clean = Done
end_judged Passed = Broken
end_judged (Input cause spot) = Broken
end_judged TooLong = Broken
end_judged Read = Broken
end_judged Write = Broken
end_judged Memory = Broken

-- what a machine that reads wants: to give what is ready, or to pull where nothing is
abbrev pub reading_wants : Ready → Want
reading_wants (Next item) = Give 0
reading_wants Nothing = Pull
reading_wants AtTheEnd = Give 0
reading_wants Closed = Ended
reading_wants Stopped = Ended

-- its verdict: that of its reader once the end was given
abbrev pub reading_verdict : Verdict → Ready → Verdict
reading_verdict verdict (Next item) = Running
reading_verdict verdict Nothing = Running
reading_verdict verdict AtTheEnd = Running
reading_verdict verdict Closed = verdict
reading_verdict verdict Stopped = Memory

-- whether pulls are over: the last one failed, gave no byte or passed the limit
abbrev pub are_pulls_over : Feed → Bool
are_pulls_over Open = false
are_pulls_over AtEnd = true
are_pulls_over Failed = true
are_pulls_over PastLimit = true

-- the most pulls that may come yet of a source that gave so much
abbrev pub pulls_left : Feed → ℕ → ℕ → ℕ
pulls_left Open limit given = limit - given + 1
pulls_left AtEnd limit given = 0
pulls_left Failed limit given = 0
pulls_left PastLimit limit given = 0

-- what is ready counts for this much of what is left to do
abbrev pub ready_left : Ready → ℕ
ready_left (Next item) = 2
ready_left Nothing = 1
ready_left AtTheEnd = 1
ready_left Closed = 0
ready_left Stopped = 0

-- what a machine that reads can do yet: items, of which a file has no more than bytes, pulls, and what is ready
abbrev pub reading_left : ReadingValue → ℕ
reading_left m =
    let fed : FeedValue = file_fed m.reader in
    (fed.limit - m.made) + pulls_left fed.feed fed.limit fed.given + ready_left m.ready

-- what every machine that reads keeps: how many items its reader gave; and where nothing is ready it wants a pull
pub record KeepsReading (reader : FileReader) (made : ℕ) (ready : Ready) : Type 0 where
  pub given : HasGiven reader made
  pub wants : ready ≡ Nothing → FileWants reader

-- a machine that reads got so far: its reader stands for what came, and for these items and the one that is ready, and
-- its source gave what came, which is at most a piece past the limit
pub record HasRead (m : ReadingValue) (items : List ItemValue) (given : Given ReadingValue) : Type 0 where
  pub stands : FileStands m.reader given.bytes given.came (items ++ ready_items m.ready)
  pub over : given.over ≡ are_pulls_over (file_fed m.reader).feed
  pub source : SourceStands given.made.source m.source given.bytes given.came
  pub faults : FaultsOfPull (file_fed m.reader).feed given.made.source.value.faults m.source.value.faults
  pub few : length given.bytes ≤ (file_fed m.reader).limit + piece_size

-- a machine that reads stands for the messages that it gave, and for what came of its source
pub record ReadingStands (m : ReadingValue) (y : List Message) (given : Given ReadingValue) : Type 0 where
  pub items : List ItemValue
  pub gave : y ≡ fixed (is_closed m.ready) (record { items = items; end = end_judged (file_verdict m.reader) })
  pub read : HasRead m items given
  pub ready : IsReady m.reader m.ready

-- its source gave these bytes, at most a piece past the limit, and its reader counts them; it says whether their end came,
-- the count of faults rose where a pull failed, and it blames its source only then
pub record ReadingDevices (m : ReadingValue) (given : Given ReadingValue) : Type 0 where
  pub source : SourceStands given.made.source m.source given.bytes given.came
  pub counted : (file_fed m.reader).given ≡ raised 0 (length given.bytes)
  pub few : length given.bytes ≤ (file_fed m.reader).limit + piece_size
  pub clean : given.came ≡ reached_end (file_fed m.reader).feed
  pub faults : FaultsOfPull (file_fed m.reader).feed given.made.source.value.faults m.source.value.faults
  pub blamed : reading_verdict (file_verdict m.reader) m.ready ≡ Read → (file_fed m.reader).feed ≡ Failed

-- what machines that read mean
abbrev pub reading : Meanings ReadingValue
reading = record {
  task = λ m. reader_task (file_format m.reader) (file_fed m.reader).limit;
  stands = λ m x y given. ReadingStands m (y 0) given;
  wanted = λ m. reading_wants m.ready;
  verdict = λ m. reading_verdict (file_verdict m.reader) m.ready;
  wrote = λ m. None;
  devices = ReadingDevices;
  left = reading_left;
}
