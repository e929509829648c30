-- The causes of the answers of a run: what has to be so for each fault to come, and for an end not to come.
-- Here each is told by the counts and the course; the outcome tells the whole run.
use Rattle.std.specs.Prelude.{ℕ, ◌≡◌, ◌<◌, ◌⊎◌, List, [], ◌∷◌, ◌++◌, length, true, false, Contains, ⊤, flat_map}
use Rattle.std.specs.List.{AllByRecursion}
use Rattle.osm_entity.specs.Meaning.{Wrong}
use Rattle.osm_entity.specs.declared.verdict.Cause.{Cause}
use Rattle.osm_entity.specs.declared.verdict.Spot.{Spot}
use Rattle.osm_host.specs.Counts.{Rose}
use Rattle.osm_host.specs.Moments.{Moment}
use Rattle.osm_host.specs.declared.outside.Op.{Op}
use Rattle.osm_host.specs.declared.outside.Op.TheVariants.{Open as OpenOp, Make, Pull, Put, Keep as KeepOp}
use Rattle.osm_report.specs.declared.fault.Fault.{Fault}
use Rattle.osm_report.specs.declared.fault.Fault.TheVariants.{Clean, Input, TooLong, Device, Memory}
use Rattle.osm_report.specs.declared.fault.DeviceCall.{DeviceCall}
use Rattle.osm_report.specs.declared.fault.DeviceCall.TheVariants.{Open, Read, Write, Keep, Spill}
use Rattle.osm_run.specs.Plan.{File, Polygon, Store, Plan, numbered, uses, is_named, is_called}
use Rattle.osm_run.specs.Command.{Command}
use Rattle.osm_run.specs.Course.{Course, source_limit, polygon_limit, meaning_of, task_faults}
use Rattle.osm_run.specs.declared.status.SourceEnd.{SourceEnd}
use Rattle.osm_run.specs.declared.status.Status.{Status}

-- a task has a file on which calls of this kind are made, and their count rose in the run
pub record RoseAt (plan : Plan) (before after : Moment) (op : Op) (task : ℕ) : Type 0 where
  pub file : File
  pub name : List ℕ
  pub among : Contains (uses plan) (task, file)
  pub named : is_named name (task, file) ≡ true
  pub called : is_called op (task, file) ≡ true
  pub rose : Rose (before.count op name) (after.count op name)

-- a file of a task gave more bytes than its limit: a polygon file, or by its entry a source
pub data GaveTooMuch (plan : Plan) (c : Course) (ends : List SourceEnd) (task : ℕ) : Type 0 where
  OfPolygon : (name : List ℕ) → Contains (uses plan) (task, Polygon name) → polygon_limit < length (c.given task) →
      GaveTooMuch plan c ends task
  OfSource : (e : SourceEnd) → Contains ends e → e.task ≡ task → source_limit < e.given → GaveTooMuch plan c ends task

-- a polygon file of the task, read whole, is wrong there; or the task ends wrong there, and no earlier one is at
-- fault
pub data WasWrongAt (k : Command) (c : Course) (task : ℕ) (cause : Cause) (spot : Spot) : Type 0 where
  AtPolygon : (name : List ℕ) → Contains (uses k.plan) (task, Polygon name) → c.clean task ≡ true →
      k.area (c.given task) ≡ Wrong cause spot → WasWrongAt k c task cause spot
  AtTask : (earlier later : List (ℕ × List File)) → (files : List File) →
      numbered k.plan ≡ earlier ++ (task, files) ∷ later →
      flat_map (task_faults (meaning_of k c) c) earlier ≡ [] →
      (meaning_of k c).finish task ≡ Wrong cause spot → WasWrongAt k c task cause spot

-- no entry of a task is clean
abbrev pub NoneClean : List SourceEnd → ℕ → Type 0
NoneClean ends task = AllByRecursion (λ e. e.task ≡ task → e.clean ≡ false) ends

-- what has to be so for a call of a task to be blamed
abbrev pub BlameOf : Command → Course → Moment → Moment → List SourceEnd → ℕ → DeviceCall → Type 0
BlameOf k c before after ends task Open =
    RoseAt k.plan before after OpenOp task ⊎ RoseAt k.plan before after Make task
BlameOf k c before after ends task Read = RoseAt k.plan before after Pull task × NoneClean ends task
BlameOf k c before after ends task Write = RoseAt k.plan before after Put task
BlameOf k c before after ends task Keep = RoseAt k.plan before after KeepOp task
BlameOf k c before after ends task Spill =
    Contains (uses k.plan) (task, Store) × ((c.failed OpenOp task ≡ true) ⊎ (c.spilled task ≡ true))

-- what has to be so for each fault to come; a command that runs is never refused
abbrev pub CauseOf : Command → Course → Moment → Moment → List SourceEnd → Fault → Type 0
CauseOf k c before after ends Clean = (op : Op) (n : List ℕ) → after.count op n ≡ before.count op n
CauseOf k c before after ends (Input task cause spot) = WasWrongAt k c task cause spot
CauseOf k c before after ends (TooLong task) = GaveTooMuch k.plan c ends task
CauseOf k c before after ends (Device task call) = BlameOf k c before after ends task call
CauseOf k c before after ends Memory = ⊤
CauseOf k c before after ends refusal = ⊥

-- why a reader's end did not come: memory, a sink that was not opened, its own bytes, their number, or a failed pull
pub data UncleanBy (k : Command) (c : Course) (before after : Moment) (fault : Fault) (e : SourceEnd) : Type 0 where
  AtMemory : fault ≡ Memory → UncleanBy k c before after fault e
  AtOpening : (at : ℕ) → fault ≡ Device at Open → RoseAt k.plan before after Make at →
      UncleanBy k c before after fault e
  AtWrong : (cause : Cause) → (spot : Spot) → (meaning_of k c).finish e.task ≡ Wrong cause spot →
      UncleanBy k c before after fault e
  AtLimit : source_limit < e.given → UncleanBy k c before after fault e
  AtPull : RoseAt k.plan before after Pull e.task → UncleanBy k c before after fault e

-- the causes of a status: of its fault, and of each entry that is not clean
pub record HasCauses (k : Command) (c : Course) (before after : Moment) (status : Status) : Type 0 where
  pub fault : CauseOf k c before after status.ends status.fault
  pub unclean : AllByRecursion (λ e. e.clean ≡ false → UncleanBy k c before after status.fault e) status.ends
