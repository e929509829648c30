-- The outcome of a run: how the host and the status after it stand to the command and the host before it.
-- Here the whole run is one relation between two moments; the code goes through it call by call.
use Rattle.std.specs.Prelude.{ℕ, ◌≡◌, ◌≤◌, List, []}
use Rattle.std.specs.Io.KnownBytes.{append_known}
use Rattle.osm_host.specs.Counts.{Rose}
use Rattle.osm_host.specs.Moments.{Moment}
use Rattle.osm_host.specs.declared.outside.Op.{Op}
use Rattle.osm_report.specs.declared.fault.Fault.{Fault}
use Rattle.osm_run.specs.Command.{Command}
use Rattle.osm_run.specs.Course.{Course}
use Rattle.osm_run.specs.HowFar.{HowFar}
use Rattle.osm_run.specs.OnHost.{IsCourse}
use Rattle.osm_run.specs.declared.status.Status.{Status}

-- a run of a command: one course, and how far it came
pub record IsRun (k : Command) (before after : Moment) (status : Status) : Type 0 where
  pub course : Course
  pub is_course : IsCourse k.plan course before after
  pub how_far : HowFar k course before after status

-- no file, no count, no number given and no known name changed
pub record IsUnchanged (before after : Moment) : Type 0 where
  pub files : after.files ≡ before.files
  pub counts : (op : Op) (n : List ℕ) → after.count op n ≡ before.count op n
  pub gave : (n : List ℕ) → after.gave n ≡ before.gave n
  pub known : after.known ≡ before.known

-- words that were refused changed nothing, and the fault is one with which they may be refused
pub record AfterRefusal (refused : Fault → Type 0) (before after : Moment) (status : Status) : Type 0 where
  pub fault : refused status.fault
  pub ends : status.ends ≡ []
  pub same : IsUnchanged before after

-- this text was added to what was said, where no call that said it failed; an empty text changes nothing
pub record IsSaid (text : List ℕ) (before after : Moment) : Type 0 where
  pub silent : text ≡ [] → (after.said ≡ before.said) × (after.mute ≡ before.mute)
  pub later : before.mute ≤ after.mute
  pub said : (Rose before.mute after.mute → ⊥) → after.said ≡ append_known before.said text
