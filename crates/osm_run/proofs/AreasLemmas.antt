-- The polygon files of tasks, read one after the other.
use Rattle.std.proofs.Common.{◌≡◌, ℕ, suc, ◌<◌, List, [], ◌∷◌, ◌++◌, length, true, false, inl, inr, refl, sym, ap, subst, ◌∙◌, arith}
use Rattle.std.specs.Prelude.{Option, Some, None, ⊤}
use Rattle.std.proofs.lemmas.Bool.{cases_lt}
use Rattle.osm_area.specs.declared.area.Area.{Area}
use Rattle.osm_graph.specs.Graphs.{GraphValue}
use Rattle.osm_host.specs.Moments.{Moment}
use Rattle.osm_machine.specs.TaskMeanings.{IsGivenWhere, reads_area}
use Rattle.osm_report.specs.declared.fault.Fault.{Fault}
use Rattle.osm_report.specs.declared.fault.Fault.TheVariants.{Memory}
use Rattle.osm_tasks.specs.Tasks.{TaskValue}
use Rattle.osm_tasks.specs.declared.kind.TaskKind.{TaskKind}
use Rattle.osm_run.specs.Commands.{Areas, all_kind_files, area_at, command_of_graph, kind_at, kind_files}
use Rattle.osm_run.specs.Polygons.{IsAreaOf, WasAreaRefused, WereRead, polygon_name}
use Rattle.osm_run.specs.WordsRun.{IsCountedRun, RanNoTask}
use Rattle.osm_run.specs.declared.status.Status.{Status}
use Rattle.osm_run.proofs.HeldLemmas.{plain_files}
use Rattle.osm_run.proofs.KindFilesLemmas.{FilesOfKind, NoPolygon, OnlyPolygon, files_of_kind}
use Rattle.osm_run.proofs.LeavingLemmas.{get_or_before, get_or_behind}
use Rattle.osm_run.proofs.NoAreaLemmas.{no_area}
use Rattle.osm_run.proofs.PastLemmas.{past_run}
use Rattle.osm_run.proofs.RanLemmas.{idle_run}
use Rattle.osm_run.proofs.ReadAreasLemmas.{command_from, from_all, from_none, has_first, is_past, skipped}
use Rattle.osm_run.proofs.RefusedLemmas.{nothing_happened}
use Rattle.osm_run.proofs.UsesLemmas.{by_plain}

-- the polygon files of the first tasks were read: what then runs as the command without them runs as the whole command
abbrev pub ReadTo : List TaskValue → ℕ → List (Option Area) → Moment → Moment → Type 0
ReadTo tasks n areas before now = (g : GraphValue) (after : Moment) (status : Status) (steps : ℕ) → g.tasks ≡ tasks →
    IsCountedRun (command_from n g (area_at areas)) now after status steps →
    IsCountedRun (command_of_graph g) before after status steps

pub read_none : (tasks : List TaskValue) (moment : Moment) → ReadTo tasks 0 [] moment moment
read_none tasks moment g after status steps is run =
    subst (λ k. IsCountedRun k moment after status steps) (from_none g (area_at [])) run

-- the area of one task more
area_before : (areas : List (Option Area)) (area : Option Area) (t : ℕ) → t < length areas →
    area_at (areas ++ area ∷ []) t ≡ area_at areas t
area_before areas area t less = get_or_before areas (area ∷ []) t None less

area_behind : (areas : List (Option Area)) (area : Option Area) (n : ℕ) → length areas ≡ n →
    area_at (areas ++ area ∷ []) n ≡ area
area_behind areas area n count =
    ap (λ m. area_at (areas ++ area ∷ []) m) (sym count) ∙ get_or_behind areas [] area None

-- files of a running task have no polygon file
no_name : (kind : TaskKind) → polygon_name (kind_files kind) ≡ None
no_name kind = by_plain (λ files. polygon_name files ≡ None) refl (λ name. refl) (λ name. refl) (kind_files kind)
    (plain_files kind)

module _ (g : GraphValue) (n : ℕ) (within : n < length g.tasks) (areas : List (Option Area)) (count : length areas ≡ n)
    (area : Option Area) (middle now after : Moment) (status : Status) (steps : ℕ) where
  abbrev more : List (Option Area)
  more = areas ++ area ∷ []

  earlier : (t : ℕ) → t < n → area_at more t ≡ area_at areas t
  earlier t less = area_before areas area t (omega (arith, less, count))

  own_area : area_at more n ≡ area
  own_area = area_behind areas area n count

  -- a run behind the reading of one file more
  read_one : FilesOfKind (kind_at g.tasks n) →
      IsAreaOf (polygon_name (all_kind_files (kind_at g.tasks n))) middle now area →
      IsCountedRun (command_from (suc n) g (area_at more)) now after status steps →
      IsCountedRun (command_from n g (area_at areas)) middle after status steps
  read_one (OnlyPolygon name reads files idle) is run =
      by_area area own_area (subst (λ o. IsAreaOf o middle now area) (ap polygon_name files) is)
    where
      by_area : (a : Option Area) → area_at more n ≡ a → IsAreaOf (Some name) middle now a →
          IsCountedRun (command_from n g (area_at areas)) middle after status steps
      by_area None here is = absurd is
      by_area (Some a) here is =
          past_run (command_from n g (area_at areas)) (command_from (suc n) g (area_at more)) n name is.bytes middle now
          after status steps
          (is_past g n within (area_at areas) (area_at more) earlier reads name files idle a is.bytes is.says
          is.read.fits here) is.read run
  read_one (NoPolygon reads files) is run =
      let none : polygon_name (all_kind_files (kind_at g.tasks n)) ≡ None =
      ap polygon_name files ∙ no_name (kind_at g.tasks n) in
      let both : (area ≡ None) × (now ≡ middle) = subst (λ o. IsAreaOf o middle now area) none is in
      subst (λ m. IsCountedRun (command_from n g (area_at areas)) m after status steps) both.1
      (subst (λ k. IsCountedRun k now after status steps)
      (sym (skipped g n within (area_at areas) (area_at more) earlier reads files (own_area ∙ both.0))) run)

pub read_more : (tasks : List TaskValue) (n : ℕ) (areas : List (Option Area)) (area : Option Area)
    (before middle now : Moment) → n < length tasks → length areas ≡ n → ReadTo tasks n areas before middle →
    IsAreaOf (polygon_name (all_kind_files (kind_at tasks n))) middle now area →
    ReadTo tasks (suc n) (areas ++ area ∷ []) before now
read_more tasks n areas area before middle now within count read is g after status steps same run =
    read g after status steps same
    (read_one g n (subst (λ ts. n < length ts) (sym same) within) areas count area middle now after status steps
    (files_of_kind (kind_at g.tasks n))
    (subst (λ ts. IsAreaOf (polygon_name (all_kind_files (kind_at ts n))) middle now area) (sym same) is) run)

pub read_all : (tasks : List TaskValue) (areas : List (Option Area)) (before now : Moment) →
    length areas ≡ length tasks → ReadTo tasks (length tasks) areas before now →
    WereRead tasks (area_at areas) before now
read_all tasks areas before now count read g after status steps same run =
    read g after status steps same
    (subst (λ k. IsCountedRun k now after status steps)
    (sym (ap (λ n. command_from n g (area_at areas)) (ap length (sym same))
    ∙ from_all g areas (count ∙ ap length (sym same)))) run)

-- ---- where a file gives no area

refused_by : (g : GraphValue) (n : ℕ) → n < length g.tasks → (areas : Areas) (middle now : Moment) (fault : Fault)
    (status : Status) → status.fault ≡ fault → status.ends ≡ [] → FilesOfKind (kind_at g.tasks n) →
    WasAreaRefused n (polygon_name (all_kind_files (kind_at g.tasks n))) middle now fault →
    IsCountedRun (command_from n g areas) middle now status 0
refused_by g n within areas middle now fault status is ends (OnlyPolygon name reads files idle) refused =
    idle_run (command_from n g areas) middle now status 0
    (no_area (command_from n g areas) n name
    (has_first g n within areas areas (λ t less. refl) reads name files idle) middle now status ends (λ bytes. refl)
    fault is (subst (λ o. WasAreaRefused n o middle now fault) (ap polygon_name files) refused)) refl
refused_by g n within areas middle now fault status is ends (NoPolygon reads files) refused =
    absurd (subst (λ o. WasAreaRefused n o middle now fault)
    (ap polygon_name files ∙ no_name (kind_at g.tasks n)) refused)

pub read_refused : (tasks : List TaskValue) (n : ℕ) (areas : List (Option Area)) (before middle now : Moment)
    (fault : Fault) (status : Status) → n < length tasks → ReadTo tasks n areas before middle →
    WasAreaRefused n (polygon_name (all_kind_files (kind_at tasks n))) middle now fault → status.fault ≡ fault →
    status.ends ≡ [] → RanNoTask tasks before now status
read_refused tasks n areas before middle now fault status within read refused is ends g same =
    read g now status 0 same
    (refused_by g n (subst (λ ts. n < length ts) (sym same) within) (area_at areas) middle now fault status is ends
    (files_of_kind (kind_at g.tasks n))
    (subst (λ ts. WasAreaRefused n (polygon_name (all_kind_files (kind_at ts n))) middle now fault) (sym same) refused))

-- out of memory between two files
pub read_no_further : (tasks : List TaskValue) (n : ℕ) (areas : List (Option Area)) (before now : Moment)
    (status : Status) → ReadTo tasks n areas before now → status.fault ≡ Memory → status.ends ≡ [] →
    RanNoTask tasks before now status
read_no_further tasks n areas before now status read is ends g same =
    read g now status 0 same
    (idle_run (command_from n g (area_at areas)) now now status 0
    (nothing_happened (command_from n g (area_at areas)) now status is ends) refl)

-- ---- the areas that were read

given_by : (kind : TaskKind) (middle now : Moment) (area : Option Area) → FilesOfKind kind →
    IsAreaOf (polygon_name (all_kind_files kind)) middle now area →
    IsGivenWhere (reads_area kind) area (λ a. ⊤)
given_by kind middle now area (OnlyPolygon name reads files idle) is =
    subst (λ b. IsGivenWhere b area (λ a. ⊤)) (sym reads)
    (by_area area (subst (λ o. IsAreaOf o middle now area) (ap polygon_name files) is))
  where
    by_area : (a : Option Area) → IsAreaOf (Some name) middle now a → IsGivenWhere true a (λ a. ⊤)
    by_area None is = absurd is
    by_area (Some a) is = tt
given_by kind middle now area (NoPolygon reads files) is =
    let none : polygon_name (all_kind_files kind) ≡ None = ap polygon_name files ∙ no_name kind in
    let both : (area ≡ None) × (now ≡ middle) = subst (λ o. IsAreaOf o middle now area) none is in
    subst (λ b. IsGivenWhere b area (λ a. ⊤)) (sym reads)
    (subst (λ a. IsGivenWhere false a (λ x. ⊤)) (sym both.0) tt)

pub given_more : (tasks : List TaskValue) (n : ℕ) (areas : List (Option Area)) (area : Option Area)
    (middle now : Moment) → length areas ≡ n →
    ((t : ℕ) → t < n → IsGivenWhere (reads_area (kind_at tasks t)) (area_at areas t) (λ a. ⊤)) →
    IsAreaOf (polygon_name (all_kind_files (kind_at tasks n))) middle now area → (t : ℕ) → t < suc n →
    IsGivenWhere (reads_area (kind_at tasks t)) (area_at (areas ++ area ∷ []) t) (λ a. ⊤)
given_more tasks n areas area middle now count old is t known = elim (cases_lt t n) [
  | inl less ↦ subst (λ o. IsGivenWhere (reads_area (kind_at tasks t)) o (λ a. ⊤))
      (sym (area_before areas area t (omega (arith, less, count)))) (old t less)
  | inr le ↦
      let here : n ≡ t = omega (arith, known, le) in
      subst (λ m. IsGivenWhere (reads_area (kind_at tasks m)) (area_at (areas ++ area ∷ []) m) (λ a. ⊤)) here
      (subst (λ o. IsGivenWhere (reads_area (kind_at tasks n)) o (λ a. ⊤)) (sym (area_behind areas area n count))
      (given_by (kind_at tasks n) middle now area (files_of_kind (kind_at tasks n)) is))
]
