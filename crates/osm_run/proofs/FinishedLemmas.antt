-- The machines of a graph that is ready ran: what they leave tells of a course, and of a number of steps.
use Rattle.std.proofs.Common.{◌≡◌, ℕ, ◌+◌, ◌*◌, ◌≤◌, List, length, Bool, false, sym, subst, ◌∙◌, arith}
use Rattle.osm_entity.specs.declared.verdict.Verdict.{Verdict}
use Rattle.osm_graph.specs.Graphs.{GraphValue, IsGraph}
use Rattle.osm_graph.specs.declared.pipe.Pipe.{Pipe}
use Rattle.osm_host.specs.Moments.{Moment}
use Rattle.osm_machine.specs.MachineDevices.{device_names}
use Rattle.osm_machine.specs.MachineKinds.{machines}
use Rattle.osm_machine.specs.declared.kind.MachineKind.{MachineKind}
use Rattle.osm_net.specs.Runs.{AreCountedRun, AreNewMachines, AreRun, KeepNames}
use Rattle.osm_net.specs.SourceNames.{names_source}
use Rattle.osm_run.specs.Commands.{AreTasksKept, command_with}
use Rattle.osm_run.specs.Course.{Course}
use Rattle.osm_run.specs.Leaving.{AreLeft, AreRanMachines, HasRoomFor}
use Rattle.osm_run.specs.Prepared.{AreReady, HaveFinished}
use Rattle.osm_run.specs.Went.{AreStepsOf, DeviceSeen, HaveRun, messages_by, with_keeps}
use Rattle.osm_run.specs.declared.machines.Left.{Left}
use Rattle.osm_run.specs.declared.status.SourceEnd.{SourceEnd}
use Rattle.osm_run.proofs.MachineTaskLemmas.{machines_are_tasks}
use Rattle.osm_run.proofs.OpenFilesLemmas.{devices_for}
use Rattle.osm_run.proofs.WentLemmas.{counted_tasks_have_run, tasks_have_run}

module _ {S K : Type 0} (g : GraphValue) (before now : Moment) (made : List (MachineKind S K)) (left : Left S K)
    (ends : List SourceEnd) (graph : IsGraph g) (ready : AreReady g.tasks before now made left ends) (pipes : List Pipe)
    (same : pipes ≡ g.pipes) where
  -- the machines are what a network runs
  pub ready_machines : AreTasksKept g.tasks → AreNewMachines machines pipes made
  ready_machines kept =
      subst (λ ps. AreNewMachines machines ps made) (sym same)
      (machines_are_tasks g ready.areas ready.devices made graph kept ready.machines)

  module _ (after : List (MachineKind S K)) (memory : Bool) (names : KeepNames device_names made after) where
    -- a run whose steps are counted
    pub finished_counted : (steps : ℕ) → AreCountedRun machines (λ m. names_source (device_names m)) pipes made after
        memory steps → HaveFinished g before now left ends after memory steps
    finished_counted steps run =
        let went : (c : Course) × ((keeps : ℕ → Bool) →
        HaveRun g ready.areas ready.devices after memory (with_keeps keeps c)
        × AreStepsOf (command_with g ready.areas) (with_keeps keeps c) memory steps) =
        counted_tasks_have_run g ready.areas ready.devices made after memory steps graph
        (devices_for g.tasks ready.middle now ready.devices ready.opened) ready.machines
        (subst (λ ps. AreCountedRun machines (λ m. names_source (device_names m)) ps made after memory steps) same run)
        names in
        record { made = made; ready = ready; course = went.0; went = went.1 }

    -- a run whose steps nobody counts has as many as its messages ask for
    pub finished : AreRun machines pipes made after memory →
        (steps : ℕ) × HaveFinished g before now left ends after memory steps
    finished run =
        let went : (c : Course) × ((keeps : ℕ → Bool) →
        HaveRun g ready.areas ready.devices after memory (with_keeps keeps c)) =
        tasks_have_run g ready.areas ready.devices made after memory graph
        (devices_for g.tasks ready.middle now ready.devices ready.opened) ready.machines
        (subst (λ ps. AreRun machines ps made after memory) same run) names in
        let steps : ℕ = 2 * messages_by (command_with g ready.areas) went.0 in (
          steps,
          record {
            made = made;
            ready = ready;
            course = went.0;
            went = λ keeps. (went.1 keeps, record { least = λ there. omega arith; most = omega arith });
          },
        )

module _ {S K : Type 0} (g : GraphValue) (before now : Moment) (left : Left S K) (ends : List SourceEnd)
    (ms : List (MachineKind S K)) (memory : Bool) (steps : ℕ) (done : HaveFinished g before now left ends ms memory steps)
  where
    -- there are as many machines as tasks
    pub finished_count : length ms ≡ length g.tasks
    finished_count = (done.went (λ t. false)).0.count

    -- and room for what they leave
    pub finished_room : HasRoomFor 0 (length ms) left
    finished_room = subst (λ n. HasRoomFor 0 n left) (sym finished_count) done.ready.room

    -- what they leave tells of the course
    pub finished_left : (devices : List DeviceSeen) (verdicts : List Verdict) (told : List SourceEnd) →
        AreLeft ms devices verdicts told →
        AreRanMachines g done.ready.areas done.ready.devices devices verdicts told memory steps ms
    finished_left devices verdicts told is = record { left = is; course = done.course; went = done.went }
