-- What the machines of tasks are made of, and what they leave.
-- Here the machines are one list; the code makes them and takes them apart one by one.
use Rattle.std.specs.Prelude.{◌≡◌, ◌<◌, ◌≤◌, ℕ, List, [], length, Bool, Option, vec_len, vec_capacity, ⊤}
use Rattle.osm_area.specs.declared.area.Area.{Area}
use Rattle.osm_entity.specs.declared.verdict.Verdict.{Verdict}
use Rattle.osm_graph.specs.Graphs.{GraphValue}
use Rattle.osm_machine.specs.Sinks.{TookNothing}
use Rattle.osm_machine.specs.TaskMeanings.{IsGivenWhere, reads_area}
use Rattle.osm_machine.specs.declared.kind.MachineKind.{MachineKind}
use Rattle.osm_tasks.specs.Tasks.{TaskValue}
use Rattle.osm_run.specs.Commands.{Areas, area_at, command_with, kind_at}
use Rattle.osm_run.specs.Course.{Course}
use Rattle.osm_run.specs.Went.{AreStepsOf, DeviceSeen, HaveRun, SeenSink, device_at, devices_of, machine_ends, verdicts_of, with_keeps}
use Rattle.osm_run.specs.declared.machines.Left.{Left}
use Rattle.osm_run.specs.declared.status.SourceEnd.{SourceEnd}

-- a device is as it was opened: a sink took nothing yet, where that is told
abbrev pub IsFresh : DeviceSeen → Type 0
IsFresh (SeenSink sink) = TookNothing sink.taken
IsFresh other = ⊤

-- devices are as they were opened
abbrev pub AreFresh : List DeviceSeen → Type 0
AreFresh devices = (t : ℕ) → IsFresh (device_at devices t)

-- areas are those of tasks: one of each that has an area of a file, and none of any other
pub record AreAreasFor (tasks : List TaskValue) (areas : List (Option Area)) : Type 0 where
  pub count : length areas ≡ length tasks
  pub each : (t : ℕ) → t < length tasks → IsGivenWhere (reads_area (kind_at tasks t)) (area_at areas t) (λ area. ⊤)

-- nothing is left yet
pub record HasNothing {S K : Type 0} (left : Left S K) : Type 0 where
  pub no_device : left.devices.items ≡ []
  pub no_verdict : left.verdicts.items ≡ []
  pub no_end : left.ends.items ≡ []

-- there is room for what machines of this number leave, with what the first of them left
pub record HasRoomFor {S K : Type 0} (first count : ℕ) (left : Left S K) : Type 0 where
  pub devices : vec_len left.devices ≡ first
  pub verdicts : vec_len left.verdicts ≡ first
  pub ends : vec_len left.ends ≤ first
  pub for_devices : count ≤ vec_capacity left.devices
  pub for_verdicts : count ≤ vec_capacity left.verdicts
  pub for_ends : count ≤ vec_capacity left.ends

-- what machines leave: their devices, their verdicts, and the entries of those that read
pub record AreLeft {S K : Type 0} (machines : List (MachineKind S K)) (devices : List DeviceSeen)
    (verdicts : List Verdict) (ends : List SourceEnd) : Type 0 where
  pub devices_are : devices ≡ devices_of machines
  pub verdicts_are : verdicts ≡ verdicts_of machines
  pub ends_are : ends ≡ machine_ends machines

-- the machines of a graph's tasks ran, and took this many steps: what they leave tells of a course
pub record AreRanMachines {S K : Type 0} (g : GraphValue) (areas : Areas) (opened now : List DeviceSeen)
    (verdicts : List Verdict) (ends : List SourceEnd) (memory : Bool) (steps : ℕ) (machines : List (MachineKind S K)) :
    Type 0 where
  pub left : AreLeft machines now verdicts ends
  pub course : Course
  pub went : (keeps : ℕ → Bool) → HaveRun g areas opened machines memory (with_keeps keeps course)
      × AreStepsOf (command_with g areas) (with_keeps keeps course) memory steps
