-- The devices of a command as they are closed: all sources in command order, then all sinks are kept.
-- Here what the closed devices tell is one course of a run; the code goes through the tasks twice.
use Rattle.std.specs.Prelude.{ℕ, zero, suc, ◌≡◌, ◌≢◌, ◌≤◌, ◌<◌, List, [], ◌∷◌, length, take, get_or, sum_by, Bool, true, false, ◌||◌, if◌then◌else◌, Option, Some, None, Contains, ⊤, Result, Ok, Err, flat_map}
use Rattle.std.specs.FinMap as finite
use Rattle.std.specs.List.{AllByRecursion, list_any}
use Rattle.std.specs.Str.{bytes_eq}
use Rattle.osm_entity.specs.Meaning.{Meaning}
use Rattle.osm_host.specs.Contents.{BecomesFile, Files, SameBut}
use Rattle.osm_host.specs.Counts.{Adds, GaveOnly, is_at, raised}
use Rattle.osm_host.specs.Moments.{Moment}
use Rattle.osm_host.specs.declared.outside.HostError.{HostError}
use Rattle.osm_host.specs.declared.outside.HostError.TheVariants.{Failed, Memory as HostMemory}
use Rattle.osm_host.specs.declared.outside.Op.{Op}
use Rattle.osm_host.specs.declared.outside.Op.TheVariants.{Open, Make, Pull, Put, Keep}
use Rattle.osm_report.specs.declared.fault.Fault.{Fault}
use Rattle.osm_report.specs.declared.fault.Fault.TheVariants.{Clean, Device as DeviceFault}
use Rattle.osm_report.specs.declared.fault.DeviceCall.TheVariants.{Keep as KeepCall}
use Rattle.osm_machine.specs.Devices.{SourceSeen}
use Rattle.osm_machine.specs.Sinks.{SinkSeen}
use Rattle.osm_run.specs.Plan.{File, Plan, Sink, Source, Use, is_sink_named, openings, uses}
use Rattle.osm_run.specs.Course.{Course, any_failed, first_fault, keep_faults}
use Rattle.osm_run.specs.OnHost.{CountsBy, IsCourse}
use Rattle.osm_run.specs.HowFar.{IsFileOf, WhereTold}
use Rattle.osm_run.specs.Opened.{opened_to}
use Rattle.osm_run.specs.Went.{DeviceSeen, DeviceTells, NoDevice, SeenSink, SeenSource, device_at, with_keeps}
use Rattle.osm_run.specs.declared.closing.Kept.{Kept}

-- a device can be given back, where it is open: it is that of its task's file, whose name the host knows
abbrev pub CanClose : List (List ℕ) → List File → DeviceSeen → Type 0
CanClose known [] NoDevice = ⊤
CanClose known (Source name ∷ []) NoDevice = ⊤
CanClose known (Source name ∷ []) (SeenSource source) = (source.name ≡ name) × Contains known name
CanClose known (Sink name ∷ []) NoDevice = ⊤
CanClose known (Sink name ∷ []) (SeenSink sink) = (sink.name ≡ name) × Contains known name
CanClose known others _ = ⊥

-- all sinks of a plan can be given back
abbrev pub CanKeepAll : Plan → List (List ℕ) → List DeviceSeen → Type 0
CanKeepAll plan known devices = (t : ℕ) (name : List ℕ) → t < length plan → get_or plan t [] ≡ Sink name ∷ [] →
    CanClose known (Sink name ∷ []) (device_at devices t)

-- all devices of a plan can be given back
pub record CanCloseAll (plan : Plan) (known : List (List ℕ)) (devices : List DeviceSeen) : Type 0 where
  pub count : length devices ≡ length plan
  pub each : (t : ℕ) → t < length plan → CanClose known (get_or plan t []) (device_at devices t)

-- no two tasks of a plan write one file
abbrev pub AreSinksApart : Plan → Type 0
AreSinksApart plan = (i j : ℕ) (name : List ℕ) → i < j → j < length plan →
    get_or plan i [] ≡ Sink name ∷ [] → get_or plan j [] ≡ Sink name ∷ [] → ⊥

-- a device, where it is no source
abbrev pub without_source : DeviceSeen → DeviceSeen
without_source (SeenSource source) = NoDevice
without_source device = device

-- how many bytes a device gave under a name
abbrev pub gave_under : List ℕ → DeviceSeen → ℕ
gave_under n (SeenSource source) = if bytes_eq n source.name then source.value.given else 0
gave_under n _ = 0

-- how a keep was answered
pub data KeepAnswer : Type 0 where
  WasKept : KeepAnswer
  HasFailed : KeepAnswer
  HadNoMemory : KeepAnswer

-- whether a keep failed
abbrev pub did_fail : KeepAnswer → Bool
did_fail WasKept = false
did_fail HasFailed = true
did_fail HadNoMemory = false

-- whether any call failed
abbrev pub are_there : ℕ → Bool
are_there zero = false
are_there (suc count) = true

-- whether a pull of a device failed
abbrev pub pulls_failed : DeviceSeen → Bool
pulls_failed (SeenSource source) = are_there source.value.faults
pulls_failed _ = false

-- whether a put of a device failed
abbrev pub puts_failed : DeviceSeen → Bool
puts_failed (SeenSink sink) = are_there sink.faults
puts_failed _ = false

-- which calls failed by task, as devices and the answers to their keeps tell
abbrev pub failed_by_devices : List DeviceSeen → (ℕ → KeepAnswer) → Op → ℕ → Bool
failed_by_devices devices answers Open t = false
failed_by_devices devices answers Make t = false
failed_by_devices devices answers Pull t = pulls_failed (device_at devices t)
failed_by_devices devices answers Put t = puts_failed (device_at devices t)
failed_by_devices devices answers Keep t = did_fail (answers t)

-- the course of these files by which calls failed, whatever came
abbrev pub course_by : List Use → (Op → ℕ → Bool) → Course
course_by opened failed = record {
  opened = opened;
  given = λ task. [];
  clean = λ task. false;
  failed = failed;
  spilled = λ task. false;
}

-- the file of a sink after its keep: what it took, where that is told; nothing is said after a failure, and out of
-- memory it is as it was
abbrev pub IsKeptAs : KeepAnswer → Option (List ℕ) → (before now : Option (List ℕ)) → Type 0
IsKeptAs WasKept None before now = ⊤
IsKeptAs WasKept (Some bytes) before now = now ≡ Some bytes
IsKeptAs HasFailed taken before now = ⊤
IsKeptAs HadNoMemory taken before now = now ≡ before

-- a source was closed: what it gave and how often it failed is counted under its name
pub record SourceWasClosed (name : List ℕ) (source : SourceSeen) (before now : Moment) : Type 0 where
  pub files : now.files ≡ before.files
  pub counts : Adds Pull name source.value.faults before.count now.count
  pub gave : GaveOnly name source.value.given before.gave now.gave
  pub known : now.known ≡ before.known

-- the device of a task was closed, where it is a source; else nothing happened
abbrev pub IsClosedSource : List ℕ → DeviceSeen → Moment → Moment → Type 0
IsClosedSource name (SeenSource source) before now = SourceWasClosed name source before now
IsClosedSource name _ before now = now ≡ before

-- what a call of the host answers to a keep
abbrev pub keep_answer : {T : Type 0} → Result T HostError → KeepAnswer
keep_answer (Ok x) = WasKept
keep_answer (Err Failed) = HasFailed
keep_answer (Err HostMemory) = HadNoMemory

-- a keep makes the file; after a failure nothing is said of it, and out of memory no file changed
abbrev pub KeepsAs : KeepAnswer → List ℕ → Option (List ℕ) → Option Files → Option Files → Type 0
KeepsAs WasKept name taken before now = BecomesFile taken name before now
KeepsAs HasFailed name taken before now = SameBut name before now
KeepsAs HadNoMemory name taken before now = now ≡ before

-- a sink was kept, with this answer: how often its puts failed is counted under its name, and the keep where it failed
pub record SinkWasKept (name : List ℕ) (sink : SinkSeen) (answer : KeepAnswer) (before now : Moment) : Type 0 where
  pub files : KeepsAs answer name sink.taken before.files now.files
  pub puts : now.count Put name ≡ raised (before.count Put name) sink.faults
  pub keeps : CountsBy (did_fail answer) (before.count Keep name) (now.count Keep name)
  pub others : (o : Op) (n : List ℕ) → is_at Keep name o n ≡ false → is_at Put name o n ≡ false →
      now.count o n ≡ before.count o n
  pub gave : (n : List ℕ) → now.gave n ≡ before.gave n
  pub known : now.known ≡ before.known

-- the device of a task was kept with this answer, where it is a sink; else nothing happened
abbrev pub IsKeptSink : List ℕ → DeviceSeen → KeepAnswer → Moment → Moment → Type 0
IsKeptSink name (SeenSink sink) answer before now = SinkWasKept name sink answer before now
IsKeptSink name _ answer before now = (answer ≡ WasKept) × (now ≡ before)

-- the first of two faults, where the first is one
abbrev pub first_of : Fault → Fault → Fault
first_of Clean later = later
first_of fault later = fault

-- how the keeps were answered, with the answer to one more
abbrev pub kept_with : ℕ → KeepAnswer → Kept → Kept
kept_with task WasKept kept = kept
kept_with task HasFailed kept =
    record { fault = first_of kept.fault (DeviceFault task KeepCall); memory = kept.memory }
kept_with task HadNoMemory kept = record { fault = kept.fault; memory = true }

-- the files once the sinks of the first tasks were kept: each has its own, and each other name is as it was
pub record FilesKeptTo (plan : Plan) (sinks : ℕ) (devices : List DeviceSeen) (answers : ℕ → KeepAnswer)
    (before now : Files) : Type 0 where
  pub own : (t : ℕ) (name : List ℕ) (sink : SinkSeen) → t < sinks → t < length plan →
      get_or plan t [] ≡ Sink name ∷ [] → device_at devices t ≡ SeenSink sink →
      IsKeptAs (answers t) sink.taken (finite.get before name) (finite.get now name)
  pub others : (n : List ℕ) → list_any (is_sink_named n) (uses (take sinks plan)) ≡ false →
      finite.get now n ≡ finite.get before n

-- the sources of the first tasks were closed and the sinks of the first tasks kept, with these answers: each call that
-- failed is counted under its name, and what the sources gave is counted too
pub record WereClosed (plan : Plan) (sources sinks : ℕ) (before now : Moment) (devices : List DeviceSeen)
    (answers : ℕ → KeepAnswer) : Type 0 where
  pub counts : (o : Op) (n : List ℕ) →
      CountsBy (any_failed (course_by (opened_to plan sources sinks) (failed_by_devices devices answers)) o n)
      (before.count o n) (now.count o n)
  pub gave : (n : List ℕ) → now.gave n ≡ raised (before.gave n) (sum_by (gave_under n) (take sources devices))
  pub known : now.known ≡ before.known
  pub files : WhereTold before.files now.files (FilesKeptTo plan sinks devices answers)

-- the fault of keeping sinks is that of the first keep that failed; and memory ran out where a keep says so
pub record AreAnswered (plan : Plan) (sinks : ℕ) (answers : ℕ → KeepAnswer) (kept : Kept) : Type 0 where
  pub fault : kept.fault ≡ first_fault (flat_map (keep_faults (course_by [] (failed_by_devices [] answers)))
      (uses (take sinks plan)))
  pub memory : kept.memory ≡ false → (t : ℕ) → t < sinks → answers t ≢ HadNoMemory

-- the sinks of the first tasks were kept, with some answers, which the result tells; no other task was asked
pub record SinksWereKept (plan : Plan) (sinks : ℕ) (before now : Moment) (devices : List DeviceSeen) (kept : Kept) :
    Type 0 where
  pub answers : ℕ → KeepAnswer
  pub unasked : (t : ℕ) → sinks ≤ t → answers t ≡ WasKept
  pub closed : WereClosed plan 0 sinks before now devices answers
  pub answered : AreAnswered plan sinks answers kept

-- what the devices of a run tell before they are closed: no file failed to open, and each tells of the course
pub record DevicesTell (plan : Plan) (c : Course) (m : Meaning) (memory : Bool) (opened now : List DeviceSeen) : Type 0
  where
    pub count : length now ≡ length plan
    pub all_opened : c.opened ≡ openings plan
    pub opens : (t : ℕ) → c.failed Open t ≡ false
    pub makes : (t : ℕ) → c.failed Make t ≡ false
    pub told : (t : ℕ) → t < length plan → DeviceTells c m memory t (device_at opened t) (device_at now t)

-- a writer's file after its keep: its bytes, or a prefix of them where a put failed or memory ran out
abbrev pub IsKeptFile : Course → Meaning → Bool → Files → Use → Type 0
IsKeptFile c m memory now (task, Sink name) =
    IsFileOf (m.bytes task) (memory || c.failed Put task) (c.failed Keep task) (finite.get now name)
IsKeptFile c m memory now (task, file) = ⊤

-- the files after all sinks were kept: each writer's, and all others as they were
pub record FilesKept (plan : Plan) (c : Course) (m : Meaning) (memory : Bool) (before now : Files) : Type 0 where
  pub written : AllByRecursion (IsKeptFile c m memory now) (uses plan)
  pub others : (n : List ℕ) → list_any (is_sink_named n) (uses plan) ≡ false → finite.get now n ≡ finite.get before n

-- the devices of a run were closed: the course of the run, with the keeps that failed, is what the host shows; the
-- fault is that of the first of these; and each writer's file is kept
pub record AreClosed (plan : Plan) (c : Course) (m : Meaning) (memory : Bool) (before after : Moment) (kept : Kept) :
    Type 0 where
  pub keeps : ℕ → Bool
  pub is_course : IsCourse plan (with_keeps keeps c) before after
  pub fault : kept.fault ≡ first_fault (flat_map (keep_faults (with_keeps keeps c)) (uses plan))
  pub files : WhereTold before.files after.files (FilesKept plan (with_keeps keeps c) m (memory || kept.memory))
