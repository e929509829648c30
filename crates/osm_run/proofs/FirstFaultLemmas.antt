-- The faults of a run: of which kinds they are, and what it says that there are none.
use Rattle.std.proofs.Common.{◌≡◌, ℕ, List, [], ◌∷◌, ◌++◌, length, Bool, true, false, refl, sym, ap, ◌∙◌, arith}
use Rattle.std.specs.Prelude.{flat_map, nat_lt, if◌then◌else◌}
use Rattle.std.specs.List.{AllByRecursion}
use Rattle.osm_host.specs.declared.outside.Op.TheVariants.{Open as OpenOp, Make, Put, Keep as KeepOp}
use Rattle.osm_report.specs.declared.fault.Fault.{Fault}
use Rattle.osm_report.specs.declared.fault.Fault.TheVariants.{Clean, Words, Task, Graph, Buffering, Input, TooLong, Device, Memory}
use Rattle.osm_report.specs.declared.fault.DeviceCall.{DeviceCall}
use Rattle.osm_report.specs.declared.fault.DeviceCall.TheVariants.{Open, Read, Write, Keep, Spill}
use Rattle.osm_run.specs.Plan.{File, Polygon, Source, Store, Sink, Use, numbered, uses}
use Rattle.osm_entity.specs.Meaning.{Finish, Whole, Passed, Cut, Wrong, Meaning}
use Rattle.osm_entity.specs.declared.verdict.Cause.{Cause}
use Rattle.osm_entity.specs.declared.verdict.Spot.{Spot}
use Rattle.osm_run.specs.Command.{Command}
use Rattle.osm_run.specs.Course.{Course, source_limit, polygon_limit, meaning_of, call_fault, cut_fault, wrong_fault, opening_faults, file_faults, task_faults, keep_faults, run_faults, first_fault}
use Rattle.osm_run.specs.Codes.{code_of}
use Rattle.osm_run.proofs.EachLemmas.{all_append, all_every, flat_map_all}

-- whether a fault is of a file or of a task's input
abbrev pub is_met : Fault → Bool
is_met (Input task cause spot) = true
is_met (TooLong task) = true
is_met (Device task call) = true
is_met fault = false

abbrev pub IsMet : Fault → Type 0
IsMet fault = is_met fault ≡ true

-- what holds of each fault with which the tasks of a run end
pub record OfTasks (P : Fault → Type 0) : Type 0 where
  pub wrong : (task : ℕ) (cause : Cause) (spot : Spot) → P (Input task cause spot)
  pub long : (task : ℕ) → P (TooLong task)
  pub read : (task : ℕ) → P (Device task Read)
  pub write : (task : ℕ) → P (Device task Write)
  pub keep : (task : ℕ) → P (Device task Keep)
  pub spill : (task : ℕ) → P (Device task Spill)

call_all : (P : Fault → Type 0) (task : ℕ) (call : DeviceCall) → P (Device task call) → (b : Bool) →
    AllByRecursion P (call_fault task call b)
call_all P task call holds true = (holds, tt)
call_all P task call holds false = tt

module _ (P : Fault → Type 0) (of : OfTasks P) where
  wrong_all : (task : ℕ) (finish : Finish) → AllByRecursion P (wrong_fault task finish)
  wrong_all task Whole = tt
  wrong_all task Passed = tt
  wrong_all task Cut = tt
  wrong_all task (Wrong cause spot) = (of.wrong task cause spot, tt)

  cut_all_case : (task : ℕ) (clean long : Bool) →
      AllByRecursion P (if clean then [] else (if long then TooLong task else Device task Read) ∷ [])
  cut_all_case task true long = tt
  cut_all_case task false true = (of.long task, tt)
  cut_all_case task false false = (of.read task, tt)

  cut_all : (c : Course) (task limit : ℕ) → AllByRecursion P (cut_fault c task limit)
  cut_all c task limit = cut_all_case task (c.clean task) (nat_lt limit (length (c.given task)))

  -- the faults of opening a file
  pub opening_all : ((task : ℕ) → P (Device task Open)) → (k : Command) (c : Course) (u : Use) →
      AllByRecursion P (opening_faults k c u)
  opening_all opens k c (task, Polygon name) =
      all_append P (call_fault task Open (c.failed OpenOp task) ++ cut_fault c task polygon_limit)
      (wrong_fault task (k.area (c.given task)))
      (all_append P (call_fault task Open (c.failed OpenOp task)) (cut_fault c task polygon_limit)
      (call_all P task Open (opens task) (c.failed OpenOp task)) (cut_all c task polygon_limit))
      (wrong_all task (k.area (c.given task)))
  opening_all opens k c (task, Source name) = call_all P task Open (opens task) (c.failed OpenOp task)
  opening_all opens k c (task, Store) = call_all P task Spill (of.spill task) (c.failed OpenOp task)
  opening_all opens k c (task, Sink name) = call_all P task Open (opens task) (c.failed Make task)

  file_all : (c : Course) (task : ℕ) (file : File) → AllByRecursion P (file_faults c task file)
  file_all c task (Polygon name) = tt
  file_all c task (Source name) = cut_all c task source_limit
  file_all c task Store = call_all P task Spill (of.spill task) (c.spilled task)
  file_all c task (Sink name) = call_all P task Write (of.write task) (c.failed Put task)

  task_all : (m : Meaning) (c : Course) (t : ℕ × List File) → AllByRecursion P (task_faults m c t)
  task_all m c (task, files) = all_append P (wrong_fault task (m.finish task)) (flat_map (file_faults c task) files)
      (wrong_all task (m.finish task))
      (flat_map_all P (file_faults c task) files
      (all_every (λ file. AllByRecursion P (file_faults c task file)) (file_all c task) files))

  pub keep_all : (c : Course) (u : Use) → AllByRecursion P (keep_faults c u)
  keep_all c (task, Polygon name) = tt
  keep_all c (task, Source name) = tt
  keep_all c (task, Store) = tt
  keep_all c (task, Sink name) = call_all P task Keep (of.keep task) (c.failed KeepOp task)

  -- the faults of a run whose tasks ran
  pub faults_all : (k : Command) (c : Course) → AllByRecursion P (run_faults k c)
  faults_all k c = all_append P (flat_map (task_faults (meaning_of k c) c) (numbered k.plan))
      (flat_map (keep_faults c) (uses k.plan))
      (flat_map_all P (task_faults (meaning_of k c) c) (numbered k.plan)
      (all_every (λ t. AllByRecursion P (task_faults (meaning_of k c) c t)) (task_all (meaning_of k c) c)
      (numbered k.plan)))
      (flat_map_all P (keep_faults c) (uses k.plan)
      (all_every (λ u. AllByRecursion P (keep_faults c u)) (keep_all c) (uses k.plan)))

pub all_met : OfTasks IsMet
all_met = record {
  wrong = λ task cause spot. refl;
  long = λ task. refl;
  read = λ task. refl;
  write = λ task. refl;
  keep = λ task. refl;
  spill = λ task. refl;
}

pub opening_met : (k : Command) (c : Course) (u : Use) → AllByRecursion IsMet (opening_faults k c u)
opening_met = opening_all IsMet all_met (λ task. refl)

pub faults_met : (k : Command) (c : Course) → AllByRecursion IsMet (run_faults k c)
faults_met = faults_all IsMet all_met

-- whether a fault is that a file could not be opened
abbrev pub is_opening : Fault → Bool
is_opening (Device task Open) = true
is_opening fault = false

-- where tasks ran, the fault is not that a file could not be opened
pub first_later : (k : Command) (c : Course) → is_opening (first_fault (run_faults k c)) ≡ false
first_later k c = first (run_faults k c) (faults_all (λ f. is_opening f ≡ false) (record {
  wrong = λ task cause spot. refl;
  long = λ task. refl;
  read = λ task. refl;
  write = λ task. refl;
  keep = λ task. refl;
  spill = λ task. refl;
}) k c) where
  first : (faults : List Fault) → AllByRecursion (λ f. is_opening f ≡ false) faults →
      is_opening (first_fault faults) ≡ false
  first [] all = refl
  first (fault ∷ more) all = all.0

-- faults whose first is none are none
pub first_none : (faults : List Fault) → AllByRecursion IsMet faults → first_fault faults ≡ Clean → faults ≡ []
first_none [] met clean = refl
first_none (fault ∷ more) met clean = absurd (let no : false ≡ true = sym (ap is_met clean) ∙ met.0 in cc)

-- no call, no cut, no wrong spot
pub call_none : (task : ℕ) (call : DeviceCall) (b : Bool) → call_fault task call b ≡ [] → b ≡ false
call_none task call true none = cc
call_none task call false none = refl

cut_none_case : (task : ℕ) (clean long : Bool) →
    (if clean then [] else (if long then TooLong task else Device task Read) ∷ []) ≡ [] → clean ≡ true
cut_none_case task true long none = refl
cut_none_case task false long none = cc

pub cut_none : (c : Course) (task limit : ℕ) → cut_fault c task limit ≡ [] → c.clean task ≡ true
cut_none c task limit = cut_none_case task (c.clean task) (nat_lt limit (length (c.given task)))

-- a fault that is met is no refusal, and not out of memory
pub met_code : (fault : Fault) → IsMet fault → (code_of fault ≡ 2 → ⊥) × (code_of fault ≡ 3 → ⊥)
met_code Clean met = absurd (let no : false ≡ true = met in cc)
met_code (Words error) met = absurd (let no : false ≡ true = met in cc)
met_code (Task error) met = absurd (let no : false ≡ true = met in cc)
met_code (Graph error) met = absurd (let no : false ≡ true = met in cc)
met_code (Buffering circle) met = absurd (let no : false ≡ true = met in cc)
met_code (Input task cause spot) met = (λ is. omega (arith, is), λ is. omega (arith, is))
met_code (TooLong task) met = (λ is. omega (arith, is), λ is. omega (arith, is))
met_code (Device task call) met = (λ is. omega (arith, is), λ is. omega (arith, is))
met_code Memory met = absurd (let no : false ≡ true = met in cc)
