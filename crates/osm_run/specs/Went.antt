-- What a run of the machines of a graph tells of the graph's command, whoever runs them.
-- Here devices are told as they were opened and as the machines leave them; the code moves them into machines and back.
use Rattle.std.specs.Prelude.{ℕ, ◌≡◌, ◌≤◌, ◌<◌, ◌+◌, ◌*◌, ◌++◌, List, [], ◌∷◌, length, map, get_or, take, sum_by, flat_map, Bool, true, false, Option, Some, None, IsSome, ⊤}
use Rattle.std.specs.List.{AllByRecursion, enumerate_from}
use Rattle.std.specs.Io.KnownBytes.{IsAtEnd}
use Rattle.osm_entity.specs.Machines.{WroteAll, WrotePrefix}
use Rattle.osm_entity.specs.Meaning.{Meaning}
use Rattle.osm_entity.specs.declared.verdict.Verdict.{Verdict}
use Rattle.osm_entity.specs.declared.verdict.Verdict.TheVariants.{Input as InputVerdict, TooLong as LongVerdict, Read as ReadVerdict, Write as WriteVerdict}
use Rattle.osm_graph.specs.Graphs.{GraphValue}
use Rattle.osm_host.specs.Pulls.{SourceGave}
use Rattle.osm_host.specs.declared.outside.Op.{Op}
use Rattle.osm_host.specs.declared.outside.Op.TheVariants.{Open, Make, Pull, Put, Keep}
use Rattle.osm_machine.specs.Devices.{SourceSeen}
use Rattle.osm_machine.specs.MachineDevices.{bytes_counted, has_come}
use Rattle.osm_machine.specs.MachineKinds.{machines}
use Rattle.osm_machine.specs.Sinks.{SinkSeen}
use Rattle.osm_machine.specs.TaskMeanings.{IsMachineOf}
use Rattle.osm_machine.specs.declared.kind.MachineKind.{MachineKind}
use Rattle.osm_machine.specs.declared.kind.MachineKind.TheVariants.{Read, Write}
use Rattle.osm_report.specs.declared.fault.Fault.{Fault}
use Rattle.osm_report.specs.declared.fault.Fault.TheVariants.{Input, TooLong, Device}
use Rattle.osm_report.specs.declared.fault.DeviceCall.TheVariants.{Read as ReadCall, Write as WriteCall}
use Rattle.osm_tasks.specs.Tasks.{TaskValue}
use Rattle.osm_run.specs.Command.{Command}
use Rattle.osm_run.specs.Commands.{Areas, command_with, kind_at, kind_files}
use Rattle.osm_run.specs.Course.{Course, entries, first_fault, meaning_of, source_limit, task_faults}
use Rattle.osm_run.specs.HowFar.{WasUsed}
use Rattle.osm_run.specs.OnHost.{CountsBy}
use Rattle.osm_run.specs.Plan.{File, Sink, Source, is_polygon, numbered, openings, uses}
use Rattle.osm_run.specs.declared.status.SourceEnd.{SourceEnd}

-- a device of a task as contracts see it, where the task has one
pub data DeviceSeen : Type 0 where
  NoDevice : DeviceSeen
  SeenSource : (source : SourceSeen) → DeviceSeen
  SeenSink : (sink : SinkSeen) → DeviceSeen

-- a device, where it is a source
abbrev pub source_in : DeviceSeen → Option SourceSeen
source_in (SeenSource source) = Some source
source_in other = None

-- a device, where it is a sink
abbrev pub sink_in : DeviceSeen → Option SinkSeen
sink_in (SeenSink sink) = Some sink
sink_in other = None

-- the device of the task of a number
abbrev pub device_at : List DeviceSeen → ℕ → DeviceSeen
device_at devices t = get_or devices t NoDevice

-- the device of a machine
abbrev pub device_of : {S K : Type 0} → MachineKind S K → DeviceSeen
device_of (Read m) = SeenSource m.source
device_of (Write m) = SeenSink m.sink
device_of m = NoDevice

-- the devices of machines
abbrev pub devices_of : {S K : Type 0} → List (MachineKind S K) → List DeviceSeen
devices_of ms = map device_of ms

-- the device that the files of a task are opened as: a source, a sink, or none where there is no file
abbrev pub IsDeviceFor : List File → DeviceSeen → Type 0
IsDeviceFor [] NoDevice = ⊤
IsDeviceFor (Source name ∷ []) (SeenSource source) = source.name ≡ name
IsDeviceFor (Sink name ∷ []) (SeenSink sink) = sink.name ≡ name
IsDeviceFor files other = ⊥

-- devices are those of the files of tasks
pub record AreDevicesFor (tasks : List TaskValue) (devices : List DeviceSeen) : Type 0 where
  pub count : length devices ≡ length tasks
  pub each : (t : ℕ) → t < length tasks → IsDeviceFor (kind_files (kind_at tasks t)) (device_at devices t)

-- machines are those of tasks: new, each of the kind of its number's task, and with that task's area and device
pub record AreMachinesOf {S K : Type 0} (tasks : List TaskValue) (areas : Areas) (devices : List DeviceSeen)
    (ms : List (MachineKind S K)) : Type 0 where
  pub count : length ms ≡ length tasks
  pub each : (t : ℕ) (d : MachineKind S K) → t < length tasks →
      IsMachineOf (kind_at tasks t) (areas t) (source_in (device_at devices t)) (sink_in (device_at devices t))
      (get_or ms t d)

-- whether a call failed, once it is known of which keeps do
abbrev pub failed_with : (ℕ → Bool) → (Op → ℕ → Bool) → Op → ℕ → Bool
failed_with keeps failed Open t = failed Open t
failed_with keeps failed Make t = failed Make t
failed_with keeps failed Pull t = failed Pull t
failed_with keeps failed Put t = failed Put t
failed_with keeps failed Keep t = keeps t

-- a course with these failures of keeps, by task
abbrev pub with_keeps : (ℕ → Bool) → Course → Course
with_keeps keeps c = record c { failed = failed_with keeps c.failed }

-- what a source tells of a course since it was opened: the bytes of the course came from it, to its end where that
-- came, and the count of its faults rose where a pull failed
pub record SourceTells (c : Course) (t : ℕ) (opened now : SourceSeen) : Type 0 where
  pub name : now.name ≡ opened.name
  pub gave : SourceGave opened.value now.value (c.given t)
  pub ended : c.clean t ≡ true → IsAtEnd now.value.rest
  pub pulls : CountsBy (c.failed Pull t) opened.value.faults now.value.faults

-- what a sink tells of a course since it was opened: it took a prefix of its task's bytes, all of them unless a put
-- failed or memory ran out, and tells what it took where it told that at first; and the count of its faults rose where
-- a put failed
pub record SinkTells (c : Course) (m : Meaning) (memory : Bool) (t : ℕ) (opened now : SinkSeen) : Type 0 where
  pub name : now.name ≡ opened.name
  pub puts : CountsBy (c.failed Put t) opened.faults now.faults
  pub told : IsSome opened.taken → IsSome now.taken
  pub took : WrotePrefix now.taken (m.bytes t)
  pub all : memory ≡ false → c.failed Put t ≡ false → WroteAll now.taken (m.bytes t)

-- what the device of a task tells of a course: it is the one that was opened
abbrev pub DeviceTells : Course → Meaning → Bool → ℕ → DeviceSeen → DeviceSeen → Type 0
DeviceTells c m memory t NoDevice NoDevice = ⊤
DeviceTells c m memory t (SeenSource opened) (SeenSource now) = SourceTells c t opened now
DeviceTells c m memory t (SeenSink opened) (SeenSink now) = SinkTells c m memory t opened now
DeviceTells c m memory t opened now = ⊥

-- the fault of a task by the verdict of its machine
abbrev pub verdict_faults : ℕ × Verdict → List Fault
verdict_faults (t, InputVerdict cause spot) = Input t cause spot ∷ []
verdict_faults (t, LongVerdict) = TooLong t ∷ []
verdict_faults (t, ReadVerdict) = Device t ReadCall ∷ []
verdict_faults (t, WriteVerdict) = Device t WriteCall ∷ []
verdict_faults (t, verdict) = []

-- the verdicts of machines
abbrev pub verdicts_of : {S K : Type 0} → List (MachineKind S K) → List Verdict
verdicts_of ms = map machines.verdict ms

-- the faults of machines by their verdicts, in command order
abbrev pub machine_faults : {S K : Type 0} → List (MachineKind S K) → List Fault
machine_faults ms = flat_map verdict_faults (enumerate_from 0 (verdicts_of ms))

-- the entry of a machine that reads, by what it counted
abbrev pub machine_end : {S K : Type 0} → ℕ × MachineKind S K → List SourceEnd
machine_end {S} {K} (t, Read m) = record {
  task = t;
  given = bytes_counted {S = S} {K = K} (Read m);
  clean = has_come {S = S} {K = K} (Read m);
} ∷ []
machine_end (t, m) = []

-- the entries of machines, in command order
abbrev pub machine_ends : {S K : Type 0} → List (MachineKind S K) → List SourceEnd
machine_ends ms = flat_map machine_end (enumerate_from 0 ms)

-- the most pulls of readers: one for each byte that came, and one more for each reader
abbrev pub most_pulls_of : List SourceEnd → ℕ
most_pulls_of ends = sum_by (λ (e : SourceEnd). e.given + 1) ends

-- how many messages pass the pipes of a command by a course
abbrev pub messages_by : Command → Course → ℕ
messages_by k c = k.messages (λ t. take source_limit (c.given t)) c.clean

-- a run took this many steps: two for each message, unless memory ran out, and at most one for each pull besides
pub record AreStepsOf (k : Command) (c : Course) (memory : Bool) (steps : ℕ) : Type 0 where
  pub least : memory ≡ false → 2 * messages_by k c ≤ steps
  pub most : steps ≤ 2 * messages_by k c + most_pulls_of (entries k.plan c)

-- what the run of the machines of a graph with these areas tells of a course: no file failed to open, and no store;
-- each device tells of it; a machine that reads has counted its bytes, says whether their end came, and so has the
-- course's entry; unless memory ran out the faults begin as those by the verdicts do, and each source was read as far
-- as a run reads it
pub record HaveRun {S K : Type 0} (g : GraphValue) (areas : Areas) (opened : List DeviceSeen)
    (after : List (MachineKind S K)) (memory : Bool) (c : Course) : Type 0 where
  pub count : length after ≡ length g.tasks
  pub all_opened : c.opened ≡ openings (command_with g areas).plan
  pub opens : (t : ℕ) → c.failed Open t ≡ false
  pub makes : (t : ℕ) → c.failed Make t ≡ false
  pub spilled : (t : ℕ) → c.spilled t ≡ false
  pub told : (t : ℕ) → t < length g.tasks → DeviceTells c (meaning_of (command_with g areas) c) memory t
      (device_at opened t) (device_at (devices_of after) t)
  pub counted : (t : ℕ) (d : MachineKind S K) (source : SourceSeen) → t < length g.tasks →
      device_at opened t ≡ SeenSource source →
      (bytes_counted (get_or after t d) ≡ length (c.given t)) × (has_come (get_or after t d) ≡ c.clean t)
  pub ends : machine_ends after ≡ entries (command_with g areas).plan c
  pub faults : memory ≡ false → (keeps : List Fault) → first_fault
      (flat_map (task_faults (meaning_of (command_with g areas) c) c) (numbered (command_with g areas).plan) ++ keeps)
      ≡ first_fault (machine_faults after ++ keeps)
  pub used : memory ≡ false → AllByRecursion
      (λ u. is_polygon u ≡ false → WasUsed (command_with g areas) c u) (uses (command_with g areas).plan)
