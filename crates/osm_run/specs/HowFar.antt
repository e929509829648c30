-- How far a run came, and what its status and its files are then.
-- Here it stopped at an opening, ran, or was out of memory; the code returns at many places.
use Rattle.std.specs.Prelude.{ℕ, ◌≡◌, ◌≤◌, ◌<◌, ◌⊎◌, List, [], ◌∷◌, ◌++◌, length, take, Bool, true, false, ◌&&◌, ◌||◌, nat_lt, if◌then◌else◌, Option, Some, None, Contains, ⊤, flat_map}
use Rattle.std.specs.FinMap as finite
use Rattle.std.specs.List.{list_any, AllByRecursion}
use Rattle.std.specs.Str.{bytes_eq}
use Rattle.osm_entity.specs.Meaning.{Finish, Whole, Wrong}
use Rattle.osm_entity.specs.declared.verdict.Cause.{Cause}
use Rattle.osm_entity.specs.declared.verdict.Spot.{Spot}
use Rattle.osm_host.specs.Contents.{Files}
use Rattle.osm_host.specs.Moments.{Moment}
use Rattle.osm_host.specs.declared.outside.Op.TheVariants.{Open, Pull, Put, Keep}
use Rattle.osm_report.specs.declared.fault.Fault.{Fault}
use Rattle.osm_report.specs.declared.fault.Fault.TheVariants.{Memory}
use Rattle.osm_run.specs.Plan.{Polygon, Source, Store, Sink, Use, uses, openings, is_sink, is_sink_named}
use Rattle.osm_run.specs.Command.{Command}
use Rattle.osm_run.specs.Course.{Course, source_limit, polygon_limit, meaning_of, opening_faults, first_fault, run_faults, entries, is_cut_short}
use Rattle.osm_run.specs.OnHost.{IsAtRest}
use Rattle.osm_run.specs.declared.status.Status.{Status}

-- told files stay told, and then this holds of them
abbrev pub WhereTold : Option Files → Option Files → (Files → Files → Type 0) → Type 0
WhereTold None after holds = ⊤
WhereTold (Some before) after holds = (now : Files) × (after ≡ Some now) × holds before now

-- how the reading of a file ended: at its end, past the limit, by a failed pull, or at a wrong spot
pub data HowRead (c : Course) (task limit : ℕ) (finish : Finish) : Type 0 where
  ReachedEnd : c.clean task ≡ true → c.failed Pull task ≡ false → length (c.given task) ≤ limit →
      HowRead c task limit finish
  PassedLimit : c.clean task ≡ false → c.failed Pull task ≡ false → limit < length (c.given task) →
      HowRead c task limit finish
  PullFailed : c.clean task ≡ false → c.failed Pull task ≡ true → length (c.given task) ≤ limit →
      HowRead c task limit finish
  WasWrong : (cause : Cause) → (spot : Spot) → c.clean task ≡ false → finish ≡ Wrong cause spot →
      HowRead c task limit finish

-- how a file was used where tasks ran: polygon files and sources were read
abbrev pub WasUsed : Command → Course → Use → Type 0
WasUsed k c (task, Polygon name) = HowRead c task polygon_limit Whole
WasUsed k c (task, Source name) = HowRead c task source_limit ((meaning_of k c).finish task)
WasUsed k c (task, file) = ⊤

-- how a file was used where no task ran: only a polygon file was read, and only where it could be opened
abbrev pub WasOpened : Course → Use → Type 0
WasOpened c (task, Polygon name) =
    ((c.failed Open task ≡ true) × IsAtRest c task) ⊎ HowRead c task polygon_limit Whole
WasOpened c (task, Source name) = IsAtRest c task
WasOpened c (task, Store) = c.spilled task ≡ false
WasOpened c (task, Sink name) = (c.failed Put task ≡ false) × (c.failed Keep task ≡ false)

-- the sinks among some files are empty, and all other names are as they were
abbrev pub FilesMade : List Use → Files → Files → Type 0
FilesMade made before after = (n : List ℕ) →
    finite.get after n ≡ (if list_any (is_sink_named n) made then Some [] else finite.get before n)

-- a run stopped at a file that could not be opened or read: the last that was tried
pub record AfterStop (k : Command) (c : Course) (before after : Moment) (status : Status) : Type 0 where
  pub earlier : List Use
  pub last : Use
  pub opened : c.opened ≡ earlier ++ last ∷ []
  pub used : AllByRecursion (WasOpened c) c.opened
  pub fine : flat_map (opening_faults k c) earlier ≡ []
  pub fault : (more : List Fault) × (opening_faults k c last ≡ status.fault ∷ more)
  pub ends : status.ends ≡ (if is_sink last then entries k.plan c else [])
  pub files : WhereTold before.files after.files (FilesMade earlier)

-- a writer's file is its bytes, or a prefix of them where it was cut short; after a failed keep nothing is said
abbrev pub IsFileOf : List ℕ → Bool → Bool → Option (List ℕ) → Type 0
IsFileOf bytes short true file = ⊤
IsFileOf bytes true false file = (size : ℕ) × (file ≡ Some (take size bytes))
IsFileOf bytes false false file = file ≡ Some bytes

-- the file of a writer after the tasks ran
abbrev pub IsWritten : Command → Course → Files → Use → Type 0
IsWritten k c after (task, Sink name) =
    IsFileOf ((meaning_of k c).bytes task) (is_cut_short k c task) (c.failed Keep task) (finite.get after name)
IsWritten k c after (task, file) = ⊤

-- the files after the tasks ran: each writer's, and all others as they were
pub record FilesAfter (k : Command) (c : Course) (before after : Files) : Type 0 where
  pub written : AllByRecursion (IsWritten k c after) (uses k.plan)
  pub others : (n : List ℕ) → list_any (is_sink_named n) (uses k.plan) ≡ false →
      finite.get after n ≡ finite.get before n

-- the tasks ran: the status is the first fault, there is an entry for each reader, and each writer's file is written
pub record AfterTasks (k : Command) (c : Course) (before after : Moment) (status : Status) : Type 0 where
  pub opened : c.opened ≡ openings k.plan
  pub fine : flat_map (opening_faults k c) c.opened ≡ []
  pub used : AllByRecursion (WasUsed k c) (uses k.plan)
  pub fault : status.fault ≡ first_fault (run_faults k c)
  pub ends : status.ends ≡ entries k.plan c
  pub files : WhereTold before.files after.files (FilesAfter k c)

-- no sink was opened, and nothing came from a source
abbrev pub IsBeforeSinks : Course → Use → Type 0
IsBeforeSinks c (task, Source name) = IsAtRest c task
IsBeforeSinks c (task, Sink name) = ⊥
IsBeforeSinks c (task, file) = ⊤

-- whether a name may have changed out of memory: of a sink of a task before this number, or of one whose keep failed
abbrev pub may_change : Course → ℕ → List ℕ → Use → Bool
may_change c place n (task, Sink name) = bytes_eq n name && (nat_lt task place || c.failed Keep task)
may_change c place n (task, file) = false

-- every name stays but those of opened sinks before a place in command order, and of failed keeps
abbrev pub OthersAtMemory : Course → ℕ → Files → Files → Type 0
OthersAtMemory c place before after = (n : List ℕ) → list_any (may_change c place n) c.opened ≡ false →
    finite.get after n ≡ finite.get before n

-- the sink of a task was opened, and its file is the first bytes of its meaning; after a failed keep nothing is said
pub record HoldsPrefixOpened (k : Command) (c : Course) (after : Files) (task : ℕ) (name : List ℕ) : Type 0 where
  pub opened : Contains c.opened (task, Sink name)
  pub prefix : c.failed Keep task ≡ false →
      (size : ℕ) × (finite.get after name ≡ Some (take size ((meaning_of k c).bytes task)))

-- so it is of each writer before a place in command order
abbrev pub HoldsPrefixBefore : Command → Course → ℕ → Files → Use → Type 0
HoldsPrefixBefore k c place after (task, Sink name) = task < place → HoldsPrefixOpened k c after task name
HoldsPrefixBefore k c place after (task, file) = ⊤

-- the files out of memory: the writers before a place hold first bytes, and every other name is as it was
pub record FilesAtMemory (k : Command) (c : Course) (place : ℕ) (before after : Files) : Type 0 where
  pub written : AllByRecursion (HoldsPrefixBefore k c place after) (uses k.plan)
  pub others : OthersAtMemory c place before after

-- a run ended out of memory; from the first sink on there is an entry for each reader
pub record AfterMemory (k : Command) (c : Course) (before after : Moment) (status : Status) : Type 0 where
  pub place : ℕ
  pub fault : status.fault ≡ Memory
  pub ends : (status.ends ≡ entries k.plan c) ⊎ ((status.ends ≡ []) × AllByRecursion (IsBeforeSinks c) c.opened)
  pub files : WhereTold before.files after.files (FilesAtMemory k c place)

-- how far a run came: it stopped at an opening, its tasks ran, or it was out of memory
pub data HowFar (k : Command) (c : Course) (before after : Moment) (status : Status) : Type 0 where
  Stopped : AfterStop k c before after status → HowFar k c before after status
  Ran : AfterTasks k c before after status → HowFar k c before after status
  OutOfMemory : AfterMemory k c before after status → HowFar k c before after status
