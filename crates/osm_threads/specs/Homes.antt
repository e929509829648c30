-- What a thread is started with, and what it brings home.
-- Here the gate is a list of messages; the code waits for the one that it is told.
use Rattle.std.specs.Prelude.{◌≡◌, [], ◌∷◌, Bool, true, false}
use Rattle.osm_entity.specs.Machines.{IsNew, IsSameTask, Meanings}
use Rattle.osm_entity.specs.Ports.{no_messages}
use Rattle.osm_entity.specs.declared.stream.End.{End}
use Rattle.osm_entity.specs.declared.stream.End.TheVariants.{Done, Broken}
use Rattle.osm_entity.specs.declared.stream.Message.{Message}
use Rattle.osm_entity.specs.declared.stream.Message.TheVariants.{Item as One, End as Last}
use Rattle.osm_pipe.specs.Pipes.{half}
use Rattle.osm_threads.specs.Ports.{messages_at}
use Rattle.osm_threads.specs.Work.{HasWorked, HaveSamePipes, IsWired}
use Rattle.osm_threads.specs.declared.homing.Home.{Home}
use Rattle.osm_threads.specs.declared.homing.Job.{Job}

-- whether a gate that says this lets its task work
abbrev pub opens_gate : Message → Bool
opens_gate (Last Done) = true
opens_gate (Last Broken) = false
opens_gate (One item) = false

-- what the gates are told: Done where all threads were started, else Broken
abbrev pub gate_word : (all : Bool) → End
gate_word true = Done
gate_word false = Broken

-- a job is ready: its machine is new, each port has a pipe over which nothing passed, and its gate was told nothing
pub record IsReadyJob {M : Type 0} (of : Meanings M) (job : Job M) : Type 0 where
  pub new : IsNew of job.machine
  pub wired : IsWired of job.machine job.ports
  pub nothing_taken : messages_at job.ports.inlets.items ≡ no_messages
  pub nothing_given : messages_at job.ports.outlets.items ≡ no_messages
  pub gate : job.gate.list ≡ []

module _ {M N : Type 0} (of : Meanings M) (names : M → N) where
  -- what is brought home is of the job: its gate said something, and by that the machine worked or stayed as it was
  pub record IsHome (job : Job M) (home : Home M) : Type 0 where
    pub heard : Message
    pub gate : home.gate ≡ half job.gate.pipe (heard ∷ [])
    pub pipes : HaveSamePipes job.ports home.ports
    pub same : IsSameTask of job.machine home.machine
    pub named : names home.machine ≡ names job.machine
    pub stayed : opens_gate heard ≡ false → home.machine ≡ job.machine
    pub worked : opens_gate heard ≡ true → HasWorked of job.machine home.machine home.ports home.whole
