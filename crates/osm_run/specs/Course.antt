-- The course of a run: what came from its files and which calls failed, and the faults that follow.
-- Here a course is told by task, all at once; the code sees call after call.
use Rattle.std.specs.Prelude.{ℕ, ◌^◌, List, [], ◌∷◌, ◌++◌, length, take, Bool, ◌&&◌, ◌||◌, nat_lt, if◌then◌else◌, flat_map}
use Rattle.std.specs.List.{list_any}
use Rattle.std.specs.Str.{bytes_eq}
use Rattle.osm_entity.specs.Meaning.{Finish, Wrong, Meaning}
use Rattle.osm_host.specs.declared.outside.Op.{Op}
use Rattle.osm_host.specs.declared.outside.Op.TheVariants.{Open as OpenOp, Make, Put, Keep as KeepOp}
use Rattle.osm_report.specs.declared.fault.Fault.{Fault}
use Rattle.osm_report.specs.declared.fault.Fault.TheVariants.{Clean, Input, TooLong, Device}
use Rattle.osm_report.specs.declared.fault.DeviceCall.{DeviceCall}
use Rattle.osm_report.specs.declared.fault.DeviceCall.TheVariants.{Open, Read, Write, Keep, Spill}
use Rattle.osm_run.specs.Plan.{File, Polygon, Source, Store, Sink, Plan, Use, numbered, uses, is_named, is_called, is_store}
use Rattle.osm_run.specs.Command.{Command}
use Rattle.osm_run.specs.declared.status.SourceEnd.{SourceEnd}

-- how many bytes of a source count
abbrev pub source_limit : ℕ
source_limit = 2 ^ 40

-- how many bytes of a polygon file count
abbrev pub polygon_limit : ℕ
polygon_limit = 2 ^ 24

-- what happened in a run: the files opened or tried; by task the bytes, whether their end came, and what failed
pub record Course : Type 0 where
  pub opened : List Use
  pub given : ℕ → List ℕ
  pub clean : ℕ → Bool
  pub failed : Op → ℕ → Bool
  pub spilled : ℕ → Bool

-- what a command means by the bytes that its sources gave, each up to the limit
abbrev pub meaning_of : Command → Course → Meaning
meaning_of k c = k.meaning (λ task. take source_limit (c.given task)) c.clean

-- a failed call of a device is a fault of its task
abbrev pub call_fault : ℕ → DeviceCall → Bool → List Fault
call_fault task call failed = if failed then Device task call ∷ [] else []

-- a task that ends at a wrong spot of its input is at fault
abbrev pub wrong_fault : ℕ → Finish → List Fault
wrong_fault task (Wrong cause spot) = Input task cause spot ∷ []
wrong_fault task finish = []

-- a file whose end did not come is a fault: it gave more than the limit, or failed
abbrev pub cut_fault : Course → ℕ → ℕ → List Fault
cut_fault c task limit = if c.clean task then [] else
    (if nat_lt limit (length (c.given task)) then TooLong task else Device task Read) ∷ []

-- the faults of opening a file, in the order in which they count; a polygon file is also read and looked at
abbrev pub opening_faults : Command → Course → Use → List Fault
opening_faults k c (task, Polygon name) = call_fault task Open (c.failed OpenOp task)
    ++ cut_fault c task polygon_limit ++ wrong_fault task (k.area (c.given task))
opening_faults k c (task, Source name) = call_fault task Open (c.failed OpenOp task)
opening_faults k c (task, Store) = call_fault task Spill (c.failed OpenOp task)
opening_faults k c (task, Sink name) = call_fault task Open (c.failed Make task)

-- the faults at a file while the tasks ran
abbrev pub file_faults : Course → ℕ → File → List Fault
file_faults c task (Polygon name) = []
file_faults c task (Source name) = cut_fault c task source_limit
file_faults c task Store = call_fault task Spill (c.spilled task)
file_faults c task (Sink name) = call_fault task Write (c.failed Put task)

-- the faults of a task, in the order in which they count: its input before its files
abbrev pub task_faults : Meaning → Course → ℕ × List File → List Fault
task_faults m c (task, files) = wrong_fault task (m.finish task) ++ flat_map (file_faults c task) files

-- the fault of keeping a file
abbrev pub keep_faults : Course → Use → List Fault
keep_faults c (task, Sink name) = call_fault task Keep (c.failed KeepOp task)
keep_faults c (task, file) = []

-- the first of some faults, or none
abbrev pub first_fault : List Fault → Fault
first_fault [] = Clean
first_fault (fault ∷ more) = fault

-- all faults of a run whose tasks ran: the tasks' in command order, then the keeps'
abbrev pub run_faults : Command → Course → List Fault
run_faults k c = flat_map (task_faults (meaning_of k c) c) (numbered k.plan) ++ flat_map (keep_faults c) (uses k.plan)

-- the entry of a reader: how many bytes its source gave, and whether their end came
abbrev pub entry : Course → Use → List SourceEnd
entry c (task, Source name) = record { task = task; given = length (c.given task); clean = c.clean task } ∷ []
entry c (task, file) = []

-- one entry for each reader, in command order
abbrev pub entries : Plan → Course → List SourceEnd
entries plan c = flat_map (entry c) (uses plan)

-- whether a call of this kind failed on this name
abbrev pub any_failed : Course → Op → List ℕ → Bool
any_failed c op n = list_any (λ u. is_named n u && (is_called op u && c.failed op u.0)) c.opened

-- how many bytes a file gave under a name
abbrev pub given_under : Course → List ℕ → Use → ℕ
given_under c n (task, Polygon name) = if bytes_eq n name then length (c.given task) else 0
given_under c n (task, Source name) = if bytes_eq n name then length (c.given task) else 0
given_under c n (task, file) = 0

-- whether a store failed from which pipes lead to a task
abbrev pub is_spilled : Command → Course → ℕ → Bool
is_spilled k c task = list_any (λ u. is_store u && (c.spilled u.0 && k.leads u.0 task)) (uses k.plan)

-- whether a writer may hold only a prefix of its bytes: a put failed, or a store on the way to it
abbrev pub is_cut_short : Command → Course → ℕ → Bool
is_cut_short k c task = c.failed Put task || is_spilled k c task
