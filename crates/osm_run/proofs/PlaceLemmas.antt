-- What holds of each task of a graph by its number, and of its files, is what holds of all tasks and files of its plan.
use Rattle.std.proofs.Common.{◌≡◌, ℕ, zero, suc, ◌+◌, ◌<◌, List, [], ◌∷◌, length, sym, subst, arith}
use Rattle.std.specs.Prelude.{get_or}
use Rattle.std.specs.List.{AllByRecursion, enumerate_from}
use Rattle.std.proofs.lemmas.List.{get_or-map, length-map}
use Rattle.osm_graph.specs.Graphs.{no_task}
use Rattle.osm_tasks.specs.Tasks.{TaskValue}
use Rattle.osm_tasks.specs.declared.kind.TaskKind.{TaskKind}
use Rattle.osm_run.specs.Commands.{kind_at, kind_files, plan_by, plan_of}
use Rattle.osm_run.specs.Plan.{File, Use, numbered, uses}
use Rattle.osm_run.proofs.PlanLemmas.{all_tasks, tasks_all}

-- what holds of each element of a list with its number
pub numbered_at : {X : Type 0} (P : ℕ × X → Type 0) (d : X) (n : ℕ) (xs : List X) →
    AllByRecursion P (enumerate_from n xs) → (t : ℕ) → t < length xs → P (n + t, get_or xs t d)
numbered_at P d n [] all t known = absurd (omega (arith, known))
numbered_at P d n (x ∷ xs) all zero known =
    let same : n ≡ n + 0 = omega arith in subst (λ k. P (k, x)) same all.0
numbered_at P d n (x ∷ xs) all (suc t) known =
    let same : (n + 1) + t ≡ n + suc t = omega arith in
    subst (λ k. P (k, get_or xs t d)) same (numbered_at P d (n + 1) xs all.1 t (omega (arith, known)))

pub numbered_all : {X : Type 0} (P : ℕ × X → Type 0) (d : X) (n : ℕ) (xs : List X) →
    ((t : ℕ) → t < length xs → P (n + t, get_or xs t d)) → AllByRecursion P (enumerate_from n xs)
numbered_all P d n [] each = tt
numbered_all P d n (x ∷ xs) each = (
  let same : n + 0 ≡ n = omega arith in subst (λ k. P (k, x)) same (each 0 (omega arith)),
  numbered_all P d (n + 1) xs
      (λ t known. let same : n + suc t ≡ (n + 1) + t = omega arith in
      subst (λ k. P (k, get_or xs t d)) same (each (suc t) (omega (arith, known)))),
)

-- ---- plans by the files of each kind

module _ (files_by : TaskKind → List File) where
  -- the files of the task of a number
  pub planned_at : (tasks : List TaskValue) (t : ℕ) → t < length tasks →
      get_or (plan_by files_by tasks) t [] ≡ files_by (kind_at tasks t)
  planned_at tasks t known = get_or-map (λ (task : TaskValue). files_by task.kind) tasks t no_task [] known

  pub length_planned : (tasks : List TaskValue) → length (plan_by files_by tasks) ≡ length tasks
  length_planned tasks = length-map tasks (λ (task : TaskValue). files_by task.kind)

  -- what holds of each task of a plan
  pub tasks_planned_at : (P : ℕ × List File → Type 0) (tasks : List TaskValue) →
      AllByRecursion P (numbered (plan_by files_by tasks)) → (t : ℕ) → t < length tasks → P (t, files_by (kind_at tasks t))
  tasks_planned_at P tasks all t known =
      let same : 0 + t ≡ t = omega arith in
      subst (λ files. P (t, files)) (planned_at tasks t known)
      (subst (λ k. P (k, get_or (plan_by files_by tasks) t [])) same
      (numbered_at P [] 0 (plan_by files_by tasks) all t (omega (arith, known, length_planned tasks))))

  pub tasks_planned : (P : ℕ × List File → Type 0) (tasks : List TaskValue) →
      ((t : ℕ) → t < length tasks → P (t, files_by (kind_at tasks t))) →
      AllByRecursion P (numbered (plan_by files_by tasks))
  tasks_planned P tasks each = numbered_all P [] 0 (plan_by files_by tasks)
      (λ t known. let below : t < length tasks = omega (arith, known, length_planned tasks) in
      let same : t ≡ 0 + t = omega arith in
      subst (λ k. P (k, get_or (plan_by files_by tasks) t [])) same
      (subst (λ files. P (t, files)) (sym (planned_at tasks t below)) (each t below)))

  -- what holds of each file of a plan
  pub files_planned_at : (P : Use → Type 0) (tasks : List TaskValue) →
      AllByRecursion P (uses (plan_by files_by tasks)) → (t : ℕ) → t < length tasks →
      AllByRecursion (λ file. P (t, file)) (files_by (kind_at tasks t))
  files_planned_at P tasks all = tasks_planned_at (λ t. AllByRecursion (λ file. P (t.0, file)) t.1) tasks
      (all_tasks P (plan_by files_by tasks) all)

  pub files_planned : (P : Use → Type 0) (tasks : List TaskValue) →
      ((t : ℕ) → t < length tasks → AllByRecursion (λ file. P (t, file)) (files_by (kind_at tasks t))) →
      AllByRecursion P (uses (plan_by files_by tasks))
  files_planned P tasks each = tasks_all P (plan_by files_by tasks)
      (tasks_planned (λ t. AllByRecursion (λ file. P (t.0, file)) t.1) tasks each)

-- ---- the plan of the files that are open while the tasks run

pub files_at : (tasks : List TaskValue) (t : ℕ) → t < length tasks →
    get_or (plan_of tasks) t [] ≡ kind_files (kind_at tasks t)
files_at = planned_at kind_files

pub length_plan : (tasks : List TaskValue) → length (plan_of tasks) ≡ length tasks
length_plan = length_planned kind_files

pub tasks_at : (P : ℕ × List File → Type 0) (tasks : List TaskValue) → AllByRecursion P (numbered (plan_of tasks)) →
    (t : ℕ) → t < length tasks → P (t, kind_files (kind_at tasks t))
tasks_at = tasks_planned_at kind_files

pub tasks_from : (P : ℕ × List File → Type 0) (tasks : List TaskValue) →
    ((t : ℕ) → t < length tasks → P (t, kind_files (kind_at tasks t))) → AllByRecursion P (numbered (plan_of tasks))
tasks_from = tasks_planned kind_files

pub files_of_all : (P : Use → Type 0) (tasks : List TaskValue) → AllByRecursion P (uses (plan_of tasks)) →
    (t : ℕ) → t < length tasks → AllByRecursion (λ file. P (t, file)) (kind_files (kind_at tasks t))
files_of_all = files_planned_at kind_files

pub all_of_files : (P : Use → Type 0) (tasks : List TaskValue) →
    ((t : ℕ) → t < length tasks → AllByRecursion (λ file. P (t, file)) (kind_files (kind_at tasks t))) →
    AllByRecursion P (uses (plan_of tasks))
all_of_files = files_planned kind_files
