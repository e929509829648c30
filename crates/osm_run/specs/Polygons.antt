-- The polygon files of a command, which are read before any other file is opened.
-- Here the bytes of a file are there at once; the code pulls them piece by piece.
use Rattle.std.specs.Prelude.{ℕ, ◌≡◌, ◌≤◌, ◌<◌, ◌⊎◌, List, [], ◌∷◌, ◌++◌, length, Bool, true, false, ◌&&◌, if◌then◌else◌, Option, Some, None, Ok, Err, ⊤}
use Rattle.std.specs.FinMap as finite
use Rattle.std.specs.Io.KnownBytes.{IsAtEnd}
use Rattle.std.specs.Str.{bytes_eq}
use Rattle.osm_area.specs.declared.area.Area.{Area}
use Rattle.osm_entity.specs.declared.verdict.Cause.TheVariants.{BadPoly}
use Rattle.osm_entity.specs.declared.verdict.Spot.TheVariants.{Line}
use Rattle.osm_graph.specs.Graphs.{GraphValue}
use Rattle.osm_host.specs.Contents.{Files}
use Rattle.osm_host.specs.Counts.{is_at, raised}
use Rattle.osm_host.specs.Moments.{Moment}
use Rattle.osm_host.specs.Pulls.{SourceGave, SourceValue}
use Rattle.osm_host.specs.declared.outside.Op.{Op}
use Rattle.osm_host.specs.declared.outside.Op.TheVariants.{Open as OpenOp, Pull}
use Rattle.osm_poly.specs.Poly.{poly}
use Rattle.osm_report.specs.declared.fault.Fault.{Fault}
use Rattle.osm_report.specs.declared.fault.Fault.TheVariants.{Device, Input, Memory, TooLong}
use Rattle.osm_report.specs.declared.fault.DeviceCall.TheVariants.{Read as ReadCall}
use Rattle.osm_tasks.specs.Tasks.{TaskValue}
use Rattle.osm_run.specs.Commands.{Areas, command_of_graph, command_with}
use Rattle.osm_run.specs.Course.{polygon_limit}
use Rattle.osm_run.specs.OnHost.{CountsBy, IsReadFrom, SameNames}
use Rattle.osm_run.specs.Opened.{WasNotOpened}
use Rattle.osm_run.specs.Plan.{File, Polygon}
use Rattle.osm_run.specs.WordsRun.{IsCountedRun}
use Rattle.osm_run.specs.declared.areas.ReadEnd.{ReadEnd}
use Rattle.osm_run.specs.declared.areas.ReadEnd.TheVariants.{Ended, NoRoom, PastLimit, Refused}
use Rattle.osm_run.specs.declared.status.Status.{Status}

-- the name of a polygon file, where a task has one
abbrev pub polygon_name : List File → Option (List ℕ)
polygon_name (Polygon name ∷ []) = Some name
polygon_name files = None

-- whether the end of a polygon file came
abbrev pub has_ended : ReadEnd → Bool
has_ended Ended = true
has_ended other = false

-- whether a pull of a polygon file failed
abbrev pub has_failed : ReadEnd → Bool
has_failed Refused = true
has_failed other = false

-- a polygon file gave more than its limit exactly where its reading says so; nothing is said out of memory
abbrev pub FitsLimit : ReadEnd → ℕ → Type 0
FitsLimit PastLimit count = polygon_limit < count
FitsLimit NoRoom count = ⊤
FitsLimit end count = count ≤ polygon_limit

-- a source gave these bytes, and its reading ended so
pub record SourceWasRead (before now : SourceValue) (bytes : List ℕ) (end : ReadEnd) : Type 0 where
  pub gave : SourceGave before now bytes
  pub ended : has_ended end ≡ true → IsAtEnd now.rest
  pub fits : FitsLimit end (length bytes)
  pub pulls : CountsBy (has_failed end) before.faults now.faults

-- where files are told, a file is there and begins with these bytes, and they are all of it where their end came
abbrev pub IsReadWhereTold : Option Files → List ℕ → List ℕ → Bool → Type 0
IsReadWhereTold None name bytes clean = ⊤
IsReadWhereTold (Some files) name bytes clean = IsReadFrom bytes clean (finite.get files name)

-- a polygon file was opened, gave these bytes and was closed: nothing else happened but that a pull of it may have failed
pub record FileWasRead (name : List ℕ) (before now : Moment) (bytes : List ℕ) (end : ReadEnd) : Type 0 where
  pub files : now.files ≡ before.files
  pub told : IsReadWhereTold before.files name bytes (has_ended end)
  pub fits : FitsLimit end (length bytes)
  pub counts : (o : Op) (n : List ℕ) →
      CountsBy (has_failed end && is_at Pull name o n) (before.count o n) (now.count o n)
  pub gave : (n : List ℕ) →
      now.gave n ≡ (if bytes_eq n name then raised (before.gave n) (length bytes) else before.gave n)
  pub known : SameNames now.known (before.known ++ name ∷ [])

-- a polygon file was read whole, and says this area
pub record PolygonWasRead (name : List ℕ) (before now : Moment) (area : Area) : Type 0 where
  pub bytes : List ℕ
  pub read : FileWasRead name before now bytes Ended
  pub says : poly bytes ≡ Ok area

-- why a polygon file gives no area: it was not opened; a pull failed; it is too long; it is wrong; or memory ran out
pub data PolygonWasRefused (task : ℕ) (name : List ℕ) (before now : Moment) (fault : Fault) : Type 0 where
  NotOpened : WasNotOpened OpenOp task name before now fault → PolygonWasRefused task name before now fault
  NotPulled : (bytes : List ℕ) → FileWasRead name before now bytes Refused → fault ≡ Device task ReadCall →
      PolygonWasRefused task name before now fault
  WasLonger : (bytes : List ℕ) → FileWasRead name before now bytes PastLimit → fault ≡ TooLong task →
      PolygonWasRefused task name before now fault
  SaidNoArea : (bytes : List ℕ) → (line : ℕ) → FileWasRead name before now bytes Ended → poly bytes ≡ Err line →
      fault ≡ Input task BadPoly (Line line) → PolygonWasRefused task name before now fault
  RanOutOfMemory : (bytes : List ℕ) → (end : ReadEnd) → FileWasRead name before now bytes end → fault ≡ Memory →
      PolygonWasRefused task name before now fault

-- the area of a task was read, where it has a polygon file; else nothing happened
abbrev pub IsAreaOf : Option (List ℕ) → Moment → Moment → Option Area → Type 0
IsAreaOf None before now area = (area ≡ None) × (now ≡ before)
IsAreaOf (Some name) before now (Some area) = PolygonWasRead name before now area
IsAreaOf (Some name) before now None = ⊥

-- the polygon file of a task gives no area
abbrev pub WasAreaRefused : ℕ → Option (List ℕ) → Moment → Moment → Fault → Type 0
WasAreaRefused task None before now fault = ⊥
WasAreaRefused task (Some name) before now fault = PolygonWasRefused task name before now fault

-- the fault of bytes whose reading ended so: out of memory, or what kept them from saying an area
abbrev pub IsReadFault : ℕ → ReadEnd → List ℕ → Fault → Type 0
IsReadFault task Ended bytes fault =
    (fault ≡ Memory) ⊎ ((line : ℕ) × (poly bytes ≡ Err line) × (fault ≡ Input task BadPoly (Line line)))
IsReadFault task Refused bytes fault = fault ≡ Device task ReadCall
IsReadFault task PastLimit bytes fault = fault ≡ TooLong task
IsReadFault task NoRoom bytes fault = fault ≡ Memory

-- the polygon files of tasks were read: what then runs as the command with their areas runs as the whole command
abbrev pub WereRead : List TaskValue → Areas → Moment → Moment → Type 0
WereRead tasks areas before now = (g : GraphValue) (after : Moment) (status : Status) (steps : ℕ) → g.tasks ≡ tasks →
    IsCountedRun (command_with g areas) now after status steps → IsCountedRun (command_of_graph g) before after status steps
