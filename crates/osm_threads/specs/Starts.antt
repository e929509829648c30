-- The starts of all threads: what stands before them, and what is back after their joins.
-- Here all starts are one list; the code starts one thread inside the scope of another.
use Rattle.std.specs.Prelude.{◌≡◌, List, [], ◌∷◌, ◌++◌, Bool, true, false}
use Rattle.osm_entity.specs.Machines.{IsSameTask, Meanings}
use Rattle.osm_entity.specs.declared.stream.End.{End}
use Rattle.osm_entity.specs.declared.stream.Message.TheVariants.{End as Last}
use Rattle.osm_pipe.specs.Pipes.{HalfValue, half, half_more}
use Rattle.osm_threads.specs.Homes.{IsReadyJob}
use Rattle.osm_threads.specs.Work.{HasWorked, HaveSamePipes}
use Rattle.osm_threads.specs.declared.gates.Gate.{Gate}
use Rattle.osm_threads.specs.declared.homing.Job.{Job}
use Rattle.osm_threads.specs.declared.starts.Back.{Back}
use Rattle.osm_threads.specs.declared.starts.Start.{Start}

-- a gate is new: its two halves are of one pipe, over which nothing has passed
pub record IsNewGate (gate : Gate) : Type 0 where
  pub giver : gate.giver ≡ half gate.taker.pipe []
  pub taker : gate.taker.list ≡ []

-- the gate of a start is new
pub record HasNewGate {M : Type 0} (start : Start M) : Type 0 where
  pub giver : start.gate ≡ half start.job.gate.pipe []
  pub taker : start.job.gate.list ≡ []

-- a start is ready: its job is, and its gate is new
pub record IsReadyStart {M : Type 0} (of : Meanings M) (start : Start M) : Type 0 where
  pub job : IsReadyJob of start.job
  pub gate : HasNewGate start

-- what a gate's giver has sent once it was told this
abbrev pub told_by : End → HalfValue → HalfValue
told_by end gate = half_more gate (Last end)

module _ {M N : Type 0} (of : Meanings M) (names : M → N) where
  -- what is back of a job: where all threads were started the machine has worked, else it stayed as it was
  pub record IsBack (all : Bool) (job : Job M) (back : Back M) : Type 0 where
    pub pipes : HaveSamePipes job.ports back.ports
    pub same : IsSameTask of job.machine back.machine
    pub named : names back.machine ≡ names job.machine
    pub stayed : all ≡ false → back.machine ≡ job.machine
    pub worked : all ≡ true → HasWorked of job.machine back.machine back.ports back.whole

  -- what is back of a start is what is back of its job
  abbrev pub IsBackOf : Bool → Start M → Back M → Type 0
  IsBackOf all start back = IsBack all start.job back

  -- one more is back
  pub record IsOneMore (all : Bool) (job : Job M) (old new : List (Back M)) : Type 0 where
    pub one : Back M
    pub more : new ≡ old ++ one ∷ []
    pub is_back : IsBack all job one
