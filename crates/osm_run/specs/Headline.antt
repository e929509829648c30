-- The promises of a run in the words of its user, for every command and what it means.
-- Here each promise is read off from the outcome at once; no code goes through it.
use Rattle.std.specs.Prelude.{ℕ, ◌≡◌, ◌<◌, ◌≤◌, List, [], length, take, Bool, false, ◌&&◌, nat_le, nat_lt, Option, Some, None, ⊤}
use Rattle.std.specs.FinMap as finite
use Rattle.std.specs.List.{AllByRecursion, list_any}
use Rattle.std.specs.Str.{bytes_eq}
use Rattle.osm_entity.specs.Meaning.{Wrong, Meaning}
use Rattle.osm_entity.specs.declared.verdict.Cause.{Cause}
use Rattle.osm_entity.specs.declared.verdict.Spot.{Spot}
use Rattle.osm_host.specs.Contents.{Files}
use Rattle.osm_host.specs.Counts.{Rose}
use Rattle.osm_host.specs.Moments.{Moment}
use Rattle.osm_host.specs.declared.outside.Op.{Op}
use Rattle.osm_host.specs.declared.outside.Op.TheVariants.{Open, Put, Keep}
use Rattle.osm_report.specs.declared.fault.Fault.{Fault}
use Rattle.osm_report.specs.declared.fault.Fault.TheVariants.{Input, TooLong}
use Rattle.osm_run.specs.Plan.{Plan, Polygon, Source, Store, Sink, Use, uses, is_sink_named}
use Rattle.osm_run.specs.Command.{Command}
use Rattle.osm_run.specs.Course.{Course, source_limit, polygon_limit, meaning_of, run_faults, first_fault, is_spilled}
use Rattle.osm_run.specs.HowFar.{WhereTold, HowFar, Ran}
use Rattle.osm_run.specs.Outcome.{IsRun}
use Rattle.osm_run.specs.declared.status.SourceEnd.{SourceEnd}
use Rattle.osm_run.specs.declared.status.Status.{Status}

-- this holds of each run of each command
abbrev pub OfEachRun : ((k : Command) (before after : Moment) (status : Status) → IsRun k before after status →
    Type 0) → Type 0
OfEachRun holds = (k : Command) (before after : Moment) (status : Status) → (run : IsRun k before after status) →
    holds k before after status run

-- the tasks ran: the run did not stop at an opening, and was not out of memory
abbrev pub RanItsTasks : {k : Command} {c : Course} {before after : Moment} {status : Status} →
    HowFar k c before after status → Type 0
RanItsTasks (Ran tasks) = ⊤
RanItsTasks how_far = ⊥

-- where files are told, this holds of each file of a plan in what they then are
abbrev pub EachFileNow : Plan → Moment → Moment → (Files → Use → Type 0) → Type 0
EachFileNow plan before after holds =
    WhereTold before.files after.files (λ was now. AllByRecursion (holds now) (uses plan))

-- a writer's name holds the bytes of its meaning
abbrev pub HoldsBytes : Meaning → Files → Use → Type 0
HoldsBytes m after (task, Sink name) = finite.get after name ≡ Some (m.bytes task)
HoldsBytes m after (task, file) = ⊤

-- a writer holds its bytes where its counts of puts and keeps did not rise and no store on the way to it failed
abbrev pub HoldsUnlessRose : Command → Course → Moment → Moment → Files → Use → Type 0
HoldsUnlessRose k c before after now (task, Sink name) =
    (Rose (before.count Put name) (after.count Put name) → ⊥) →
    (Rose (before.count Keep name) (after.count Keep name) → ⊥) → is_spilled k c task ≡ false →
    finite.get now name ≡ Some ((meaning_of k c).bytes task)
HoldsUnlessRose k c before after now (task, file) = ⊤

-- a writer holds the first bytes of its meaning where its count of keeps did not rise
abbrev pub HoldsPrefixUnlessRose : Command → Course → Moment → Moment → Files → Use → Type 0
HoldsPrefixUnlessRose k c before after now (task, Sink name) =
    (Rose (before.count Keep name) (after.count Keep name) → ⊥) →
    (size : ℕ) × (finite.get now name ≡ Some (take size ((meaning_of k c).bytes task)))
HoldsPrefixUnlessRose k c before after now (task, file) = ⊤

-- whether this is a sink of this name, of a task before a place in command order
abbrev pub is_sink_before : ℕ → List ℕ → Use → Bool
is_sink_before place n (task, Sink name) = bytes_eq n name && nat_lt task place
is_sink_before place n (task, file) = false

-- the writers before a place in command order hold the first bytes of their meaning, and every other name is as it was;
-- nothing is said of a name whose count of keeps rose
pub record HoldPrefixesBefore (k : Command) (c : Course) (before after : Moment) (place : ℕ) (was now : Files) : Type 0
  where
    pub written : AllByRecursion (λ u. u.0 < place → HoldsPrefixUnlessRose k c before after now u) (uses k.plan)
    pub others : (n : List ℕ) → list_any (is_sink_before place n) (uses k.plan) ≡ false →
        (Rose (before.count Keep n) (after.count Keep n) → ⊥) → finite.get now n ≡ finite.get was n

-- a name that no writer of a plan has is as it was
abbrev pub OthersStay : Plan → Files → Files → Type 0
OthersStay plan before after = (n : List ℕ) → list_any (is_sink_named n) (uses plan) ≡ false →
    finite.get after n ≡ finite.get before n

-- each file is as it was
abbrev pub SameFiles : Files → Files → Type 0
SameFiles before after = (n : List ℕ) → finite.get after n ≡ finite.get before n

-- an entry tells its reader: how many bytes came, and whether their end did
pub record TellsReader (c : Course) (e : SourceEnd) : Type 0 where
  pub given : e.given ≡ length (c.given e.task)
  pub clean : e.clean ≡ c.clean e.task

-- no count of a name rose
abbrev pub NoneRose : Moment → Moment → Type 0
NoneRose before after = (op : Op) (n : List ℕ) → Rose (before.count op n) (after.count op n) → ⊥

-- no call of a scratch store failed
abbrev pub IsUnspilled : Course → Use → Type 0
IsUnspilled c (task, Store) = (c.failed Open task ≡ false) × (c.spilled task ≡ false)
IsUnspilled c (task, file) = ⊤

-- the bytes of a file, and none where it is not there
abbrev pub content : Option (List ℕ) → List ℕ
content None = []
content (Some bytes) = bytes

-- the bytes of a file that is read are all of it, and a reader's end comes where they are within the limit
abbrev pub IsWholeFile : Files → Course → Use → Type 0
IsWholeFile files c (task, Polygon name) = c.given task ≡ content (finite.get files name)
IsWholeFile files c (task, Source name) =
    (c.given task ≡ content (finite.get files name)) × (c.clean task ≡ nat_le (length (c.given task)) source_limit)
IsWholeFile files c (task, file) = ⊤

-- a course over whole files, in which no call fails
pub record IsWholeCourse (k : Command) (files : Files) (c : Course) : Type 0 where
  pub read : AllByRecursion (IsWholeFile files c) (uses k.plan)
  pub failed : (op : Op) (task : ℕ) → c.failed op task ≡ false
  pub spilled : (task : ℕ) → c.spilled task ≡ false

-- the fault is that of whole files, and each writer holds their meaning
pub record IsComplete (k : Command) (whole : Course) (after : Files) (status : Status) : Type 0 where
  pub fault : status.fault ≡ first_fault (run_faults k whole)
  pub files : AllByRecursion (HoldsBytes (meaning_of k whole) after) (uses k.plan)

-- a polygon file is too long, or is read whole and wrong at a spot, and that is the fault
pub data IsCalmStop (k : Command) (files : Files) (last : Use) (fault : Fault) : Type 0 where
  WasTooLong : (task : ℕ) → (name bytes : List ℕ) → last ≡ (task, Polygon name) →
      finite.get files name ≡ Some bytes → polygon_limit < length bytes → fault ≡ TooLong task →
      IsCalmStop k files last fault
  WasBad : (task : ℕ) → (name bytes : List ℕ) → (cause : Cause) → (spot : Spot) → last ≡ (task, Polygon name) →
      finite.get files name ≡ Some bytes → length bytes ≤ polygon_limit → k.area bytes ≡ Wrong cause spot →
      fault ≡ Input task cause spot → IsCalmStop k files last fault
