-- What stands before the machines of a command run, and once they ran.
-- Here all that was read and opened is told at once; the code asks, reads, opens and makes one after the other.
use Rattle.std.specs.Prelude.{◌≡◌, ℕ, List, [], length, Bool, Ok}
use Rattle.osm_graph.specs.Graphs.{GraphValue}
use Rattle.osm_host.specs.Moments.{Moment}
use Rattle.osm_machine.specs.declared.kind.MachineKind.{MachineKind}
use Rattle.osm_tasks.specs.Tasks.{TaskValue}
use Rattle.osm_run.specs.Asked.{HasNoCircle, graph_asked}
use Rattle.osm_run.specs.Commands.{Areas, command_with, plan_of}
use Rattle.osm_run.specs.Course.{Course, entries}
use Rattle.osm_run.specs.Leaving.{HasNothing, HasRoomFor}
use Rattle.osm_run.specs.Opened.{AreOpened, course_at_rest}
use Rattle.osm_run.specs.Polygons.{WereRead}
use Rattle.osm_run.specs.Went.{AreMachinesOf, AreStepsOf, DeviceSeen, HaveRun, with_keeps}
use Rattle.osm_run.specs.declared.machines.Left.{Left}
use Rattle.osm_run.specs.declared.preparing.Prepared.{Prepared}
use Rattle.osm_run.specs.declared.status.SourceEnd.{SourceEnd}

-- tasks are ready to run: their polygon files were read, and then their other files were opened; the machines are made
-- of those areas and devices, there is room for what they leave, and the entries of readers are at rest
pub record AreReady {S K : Type 0} (tasks : List TaskValue) (before now : Moment) (made : List (MachineKind S K))
    (left : Left S K) (ends : List SourceEnd) : Type 0 where
  pub areas : Areas
  pub middle : Moment
  pub read : WereRead tasks areas before middle
  pub devices : List DeviceSeen
  pub opened : AreOpened (plan_of tasks) middle now devices
  pub machines : AreMachinesOf tasks areas devices made
  pub room : HasRoomFor 0 (length tasks) left
  pub nothing : HasNothing left
  pub ends_rest : ends ≡ entries (plan_of tasks) (course_at_rest [])

-- the graph that words ask for is ready to run
pub record IsPrepared {S K : Type 0} (words : List (List ℕ)) (before now : Moment) (prepared : Prepared S K) : Type 0
  where
    pub asked : graph_asked words ≡ Ok prepared.graph
    pub bare : HasNoCircle prepared.graph
    pub ready : AreReady prepared.graph.tasks before now prepared.ready.machines.items prepared.ready.left
        prepared.ready.ends

-- the machines of a graph's tasks ran, and took this many steps
pub record HaveFinished {S K : Type 0} (g : GraphValue) (before now : Moment) (left : Left S K) (ends : List SourceEnd)
    (machines : List (MachineKind S K)) (memory : Bool) (steps : ℕ) : Type 0 where
  pub made : List (MachineKind S K)
  pub ready : AreReady g.tasks before now made left ends
  pub course : Course
  pub went : (keeps : ℕ → Bool) →
      HaveRun g ready.areas ready.devices machines memory (with_keeps keeps course)
      × AreStepsOf (command_with g ready.areas) (with_keeps keeps course) memory steps
