-- The devices of a command as they are opened: all sources in command order, then all sinks.
-- Here the files that were opened are one list and each device is told by its task; the code goes through the tasks
-- twice.
use Rattle.std.specs.Prelude.{ℕ, ◌≡◌, ◌<◌, ◌⊎◌, List, [], ◌∷◌, ◌++◌, length, map, take, get_or, Bool, true, false, ◌&&◌, nat_lt, Option, Some, None, ⊤, filter, flat_map}
use Rattle.osm_host.specs.Contents.{Files, IsContent, IsEmptyWhereTold, set_file}
use Rattle.osm_host.specs.Counts.{SameCounts, is_at}
use Rattle.osm_host.specs.Moments.{Moment}
use Rattle.osm_host.specs.declared.outside.HostError.{HostError}
use Rattle.osm_host.specs.declared.outside.HostError.TheVariants.{Failed, Memory as HostMemory}
use Rattle.osm_host.specs.declared.outside.Op.{Op}
use Rattle.osm_host.specs.declared.outside.Op.TheVariants.{Open as OpenOp, Make}
use Rattle.osm_machine.specs.Devices.{SourceSeen}
use Rattle.osm_machine.specs.Sinks.{SinkSeen}
use Rattle.osm_report.specs.declared.fault.Fault.{Fault}
use Rattle.osm_report.specs.declared.fault.Fault.TheVariants.{Device as DeviceFault, Memory}
use Rattle.osm_report.specs.declared.fault.DeviceCall.TheVariants.{Open as OpenCall}
use Rattle.osm_run.specs.Plan.{File, Plan, Sink, Source, Use, is_sink, is_source, names_of, openings, uses}
use Rattle.osm_run.specs.Command.{Command}
use Rattle.osm_run.specs.Course.{Course}
use Rattle.osm_run.specs.Headline.{RanItsTasks}
use Rattle.osm_run.specs.Outcome.{IsRun}
use Rattle.osm_run.specs.declared.status.Status.{Status}
use Rattle.osm_run.specs.OnHost.{CountsBy, SameNames}
use Rattle.osm_run.specs.HowFar.{FilesMade, WhereTold}
use Rattle.osm_run.specs.Went.{DeviceSeen, NoDevice, SeenSink, SeenSource, device_at}
use Rattle.osm_run.specs.declared.devices.Device.{Device}
use Rattle.osm_run.specs.declared.devices.Device.TheVariants.{Nothing, Reads, Writes}

-- a device as contracts see it, by what its source or its sink means
abbrev pub device_seen : {S K : Type 0} → (S → SourceSeen) → (K → SinkSeen) → Device S K → DeviceSeen
device_seen source_as sink_as Nothing = NoDevice
device_seen source_as sink_as (Reads source) = SeenSource (source_as source)
device_seen source_as sink_as (Writes sink) = SeenSink (sink_as sink)

-- devices as contracts see them
abbrev pub devices_seen : {S K : Type 0} → (S → SourceSeen) → (K → SinkSeen) → List (Device S K) → List DeviceSeen
devices_seen source_as sink_as devices = map (device_seen source_as sink_as) devices

-- the name of the file that a task reads while it runs, where it reads one
abbrev pub source_name : List File → Option (List ℕ)
source_name (Source name ∷ []) = Some name
source_name files = None

-- the name of the file that a task writes, where it writes one
abbrev pub sink_name : List File → Option (List ℕ)
sink_name (Sink name ∷ []) = Some name
sink_name files = None

-- a task has no file, or one that it reads or writes while it runs
abbrev pub ReadsOrWrites : List File → Type 0
ReadsOrWrites [] = ⊤
ReadsOrWrites (Source name ∷ []) = ⊤
ReadsOrWrites (Sink name ∷ []) = ⊤
ReadsOrWrites files = ⊥

-- a source that was just opened: it has the whole of its file before it
pub record IsNewSource (files : Option Files) (name : List ℕ) (source : SourceSeen) : Type 0 where
  pub name_is : source.name ≡ name
  pub rest : IsContent files name source.value.rest
  pub given : source.value.given ≡ 0
  pub faults : source.value.faults ≡ 0

-- a sink that was just opened: it took nothing
pub record IsNewSink (files : Option Files) (name : List ℕ) (sink : SinkSeen) : Type 0 where
  pub name_is : sink.name ≡ name
  pub taken : IsEmptyWhereTold files sink.taken
  pub faults : sink.faults ≡ 0

-- the device of a task that reads a file, whose source was opened or not yet
abbrev pub IsSourceWhere : Option Files → Bool → List ℕ → DeviceSeen → Type 0
IsSourceWhere files false name device = device ≡ NoDevice
IsSourceWhere files true name (SeenSource source) = IsNewSource files name source
IsSourceWhere files true name _ = ⊥

-- the device of a task that writes a file, whose sink was opened or not yet
abbrev pub IsSinkWhere : Option Files → Bool → List ℕ → DeviceSeen → Type 0
IsSinkWhere files false name device = device ≡ NoDevice
IsSinkWhere files true name (SeenSink sink) = IsNewSink files name sink
IsSinkWhere files true name _ = ⊥

-- the device of a task while files are opened: its source was opened or not yet, and its sink was opened or not yet
abbrev pub IsOpenedWhere : Option Files → (read written : Bool) → List File → DeviceSeen → Type 0
IsOpenedWhere files read written [] device = device ≡ NoDevice
IsOpenedWhere files read written (Source name ∷ []) device = IsSourceWhere files read name device
IsOpenedWhere files read written (Sink name ∷ []) device = IsSinkWhere files written name device
IsOpenedWhere files read written others _ = ⊥

-- the files that are open once the sources of the first tasks and the sinks of the first tasks were opened
abbrev pub opened_to : Plan → (sources sinks : ℕ) → List Use
opened_to plan sources sinks =
    filter is_source (uses (take sources plan)) ++ filter is_sink (uses (take sinks plan))

-- the sources of the first tasks and the sinks of the first tasks were opened, no call failed, and each sink's file is
-- empty
pub record WereOpened (plan : Plan) (sources sinks : ℕ) (before now : Moment) (devices : List DeviceSeen) : Type 0 where
  pub count : length devices ≡ length plan
  pub each : (t : ℕ) → t < length plan → IsOpenedWhere before.files (nat_lt t sources) (nat_lt t sinks)
      (get_or plan t []) (device_at devices t)
  pub counts : SameCounts before.count now.count
  pub gave : (n : List ℕ) → now.gave n ≡ before.gave n
  pub known : SameNames now.known (before.known ++ flat_map names_of (opened_to plan sources sinks))
  pub files : WhereTold before.files now.files (FilesMade (opened_to plan sources sinks))

-- the device of a task whose files were opened
abbrev pub IsOpenedAs : Option Files → List File → DeviceSeen → Type 0
IsOpenedAs files [] NoDevice = ⊤
IsOpenedAs files (Source name ∷ []) (SeenSource source) = IsNewSource files name source
IsOpenedAs files (Sink name ∷ []) (SeenSink sink) = IsNewSink files name sink
IsOpenedAs files others _ = ⊥

-- all files of a plan were opened: each task has its device, no call failed, and each sink's file is empty
pub record AreOpened (plan : Plan) (before now : Moment) (devices : List DeviceSeen) : Type 0 where
  pub count : length devices ≡ length plan
  pub each : (t : ℕ) → t < length plan → IsOpenedAs before.files (get_or plan t []) (device_at devices t)
  pub counts : SameCounts before.count now.count
  pub gave : (n : List ℕ) → now.gave n ≡ before.gave n
  pub known : SameNames now.known (before.known ++ flat_map names_of (openings plan))
  pub files : WhereTold before.files now.files (FilesMade (openings plan))

-- a source was opened, and the host knows its name
pub record SourceIsOpen (name : List ℕ) (before now : Moment) (source : SourceSeen) : Type 0 where
  pub is_new : IsNewSource before.files name source
  pub files : now.files ≡ before.files
  pub counts : SameCounts before.count now.count
  pub gave : (n : List ℕ) → now.gave n ≡ before.gave n
  pub known : SameNames now.known (before.known ++ name ∷ [])

-- a sink was opened, which made its file empty, and the host knows its name
pub record SinkIsOpen (name : List ℕ) (before now : Moment) (sink : SinkSeen) : Type 0 where
  pub is_new : IsNewSink before.files name sink
  pub files : now.files ≡ set_file name [] before.files
  pub counts : SameCounts before.count now.count
  pub gave : (n : List ℕ) → now.gave n ≡ before.gave n
  pub known : SameNames now.known (before.known ++ name ∷ [])

-- the fault of a task whose file was not opened
abbrev pub refusal_fault : ℕ → HostError → Fault
refusal_fault task Failed = DeviceFault task OpenCall
refusal_fault task HostMemory = Memory

-- whether a refused call failed, or else was out of memory
abbrev pub is_failure : HostError → Bool
is_failure Failed = true
is_failure HostMemory = false

-- a file of a task was not opened: where that call failed its count rose, and its name is known then; else nothing
-- happened but that its name may be known
pub record WasNotOpened (op : Op) (task : ℕ) (name : List ℕ) (before now : Moment) (fault : Fault) : Type 0 where
  pub refusal : HostError
  pub fault_is : fault ≡ refusal_fault task refusal
  pub files : now.files ≡ before.files
  pub counts : (o : Op) (n : List ℕ) →
      CountsBy (is_failure refusal && is_at op name o n) (before.count o n) (now.count o n)
  pub gave : (n : List ℕ) → now.gave n ≡ before.gave n
  pub known : (SameNames now.known before.known × (refusal ≡ HostMemory))
      ⊎ SameNames now.known (before.known ++ name ∷ [])

-- the sources of the first tasks were opened, and not that of the next
pub record StoppedAtSource (plan : Plan) (before now : Moment) (devices : List DeviceSeen) (fault : Fault) : Type 0
  where
    pub place : ℕ
    pub name : List ℕ
    pub within : place < length plan
    pub file : get_or plan place [] ≡ Source name ∷ []
    pub middle : Moment
    pub opened : WereOpened plan place 0 before middle devices
    pub refused : WasNotOpened OpenOp place name middle now fault

-- all sources and the sinks of the first tasks were opened, and not that of the next
pub record StoppedAtSink (plan : Plan) (before now : Moment) (devices : List DeviceSeen) (fault : Fault) : Type 0
  where
    pub place : ℕ
    pub name : List ℕ
    pub within : place < length plan
    pub file : get_or plan place [] ≡ Sink name ∷ []
    pub middle : Moment
    pub opened : WereOpened plan (length plan) place before middle devices
    pub refused : WasNotOpened Make place name middle now fault

-- the course of a run of which nothing came and in which no call failed, with these files opened
abbrev pub course_at_rest : List Use → Course
course_at_rest opened = record {
  opened = opened;
  given = λ task. [];
  clean = λ task. false;
  failed = λ op task. false;
  spilled = λ task. false;
}

-- a run in which no task ran
pub record IsIdleRun (k : Command) (before after : Moment) (status : Status) : Type 0 where
  pub run : IsRun k before after status
  pub idle : RanItsTasks run.how_far → ⊥
