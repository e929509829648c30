-- Machines with their areas and devices, with one more of each.
use Rattle.std.proofs.Common.{◌≡◌, ℕ, zero, suc, ◌+◌, ◌<◌, List, [], ◌∷◌, ◌++◌, length, map, get_or, inl, inr, refl, sym, ap, subst, ◌∙◌, arith}
use Rattle.std.specs.Prelude.{Option, None, slice_set, ⊤}
use Rattle.std.proofs.lemmas.Bool.{cases_lt}
use Rattle.std.proofs.lemmas.List.{get_or-set_other}
use Rattle.osm_area.specs.declared.area.Area.{Area}
use Rattle.osm_graph.specs.Graphs.{no_task}
use Rattle.osm_machine.specs.TaskMeanings.{IsGivenWhere, reads_area}
use Rattle.osm_tasks.specs.Tasks.{TaskValue}
use Rattle.osm_run.specs.Commands.{area_at, kind_at, kind_files}
use Rattle.osm_run.specs.Leaving.{AreAreasFor, AreFresh, IsFresh}
use Rattle.osm_run.specs.Went.{AreDevicesFor, DeviceSeen, IsDeviceFor, NoDevice, device_at}
use Rattle.osm_run.proofs.LeavingLemmas.{get_or_before, get_or_behind, map_both, map_length, stands_within}

-- what stands at a place of a list, whatever else is said for a place past its end
same_there : {X : Type 0} (xs : List X) (at : ℕ) (d e : X) → at < length xs → get_or xs at d ≡ get_or xs at e
same_there [] at d e known = absurd (omega (arith, known))
same_there (x ∷ xs) zero d e known = refl
same_there (x ∷ xs) (suc at) d e known = same_there xs at d e (omega (arith, known))

-- one element more makes a list longer by one
pub length_more : {X : Type 0} (xs : List X) (x : X) → length (xs ++ x ∷ []) ≡ length xs + 1
length_more [] x = omega arith
length_more (y ∷ xs) x =
    let rest : length (xs ++ x ∷ []) ≡ length xs + 1 = length_more xs x in
    omega (arith, rest)

-- the device of the task of a number, where it stands behind others
behind_others : {X : Type 0} (seen : X → DeviceSeen) (xs ys : List X) (x : X) →
    device_at (map seen (xs ++ x ∷ ys)) (length xs) ≡ seen x
behind_others seen [] ys x = refl
behind_others seen (y ∷ xs) ys x = behind_others seen xs ys x

pub device_behind : {X : Type 0} (seen : X → DeviceSeen) (xs ys : List X) (x : X) (all : List X) (at : ℕ) →
    xs ++ x ∷ ys ≡ all → at ≡ length xs → device_at (map seen all) at ≡ seen x
device_behind seen xs ys x all at is place =
    ap (λ zs. device_at (map seen zs) at) (sym is) ∙ ap (λ n. device_at (map seen (xs ++ x ∷ ys)) n) place
    ∙ behind_others seen xs ys x

-- and where others stand behind it
device_before : {X : Type 0} (seen : X → DeviceSeen) (xs ys : List X) (t : ℕ) → t < length xs →
    device_at (map seen (xs ++ ys)) t ≡ device_at (map seen xs) t
device_before seen xs ys t less =
    let long : length (map seen xs) ≡ length xs = map_length seen xs in
    ap (λ zs. device_at zs t) (map_both seen xs ys)
    ∙ get_or_before (map seen xs) (map seen ys) t NoDevice (omega (arith, less, long))

-- the kind of the task of a number
pub kind_here : (tasks : List TaskValue) (at : ℕ) (task : TaskValue) → at < length tasks → task ≡ get_or tasks at task →
    kind_at tasks at ≡ task.kind
kind_here tasks at task known is =
    ap (λ (x : TaskValue). x.kind) (same_there tasks at no_task task known ∙ sym is)

-- what holds of each machine and its device holds with one machine more
pub each_more : {X M : Type 0} (P : ℕ → DeviceSeen → M → Type 0) (seen : X → DeviceSeen) (devices : List X) (x : X)
    (ms : List M) (m : M) → length ms ≡ length devices →
    ((t : ℕ) (d : M) → t < length devices → P t (device_at (map seen devices) t) (get_or ms t d)) →
    P (length devices) (seen x) m → (t : ℕ) (d : M) → t < length (devices ++ x ∷ []) →
    P t (device_at (map seen (devices ++ x ∷ [])) t) (get_or (ms ++ m ∷ []) t d)
each_more P seen devices x ms m count old new t d known = elim (cases_lt t (length devices)) [
  | inl less ↦
      subst (λ dv. P t dv (get_or (ms ++ m ∷ []) t d)) (sym (device_before seen devices (x ∷ []) t less))
      (subst (λ mk. P t (device_at (map seen devices) t) mk)
      (sym (get_or_before ms (m ∷ []) t d (omega (arith, less, count)))) (old t d less))
  | inr le ↦
      let long : length (devices ++ x ∷ []) ≡ length devices + 1 = length_more devices x in
      let here : t ≡ length devices = omega (arith, known, le, long) in
      let there : get_or (ms ++ m ∷ []) t d ≡ m =
      ap (λ n. get_or (ms ++ m ∷ []) n d) (here ∙ sym count) ∙ get_or_behind ms [] m d in
      subst (λ dv. P t dv (get_or (ms ++ m ∷ []) t d))
      (sym (device_behind seen devices [] x (devices ++ x ∷ []) t refl here))
      (subst (λ mk. P t (seen x) mk) (sym there) (subst (λ n. P n (seen x) m) (sym here) new))
]

-- a device that stands behind others is that of a task
pub within_tasks : {X : Type 0} (tasks : List TaskValue) (seen : X → DeviceSeen) (all xs ys : List X) (x : X) (at : ℕ) →
    xs ++ x ∷ ys ≡ all → at ≡ length xs → AreDevicesFor tasks (map seen all) → at < length tasks
within_tasks tasks seen all xs ys x at is place pairs =
    let less : length xs < length all = stands_within xs ys x all is in
    let long : length (map seen all) ≡ length all = map_length seen all in
    let count : length (map seen all) ≡ length tasks = pairs.count in
    omega (arith, less, long, count, place)

-- it is one for this task's files
pub device_here : {X : Type 0} (tasks : List TaskValue) (seen : X → DeviceSeen) (all xs ys : List X) (x : X) (at : ℕ)
    (task : TaskValue) → xs ++ x ∷ ys ≡ all → at ≡ length xs → AreDevicesFor tasks (map seen all) →
    task ≡ get_or tasks at task → IsDeviceFor (kind_files task.kind) (seen x)
device_here tasks seen all xs ys x at task is place pairs here =
    let known : at < length tasks = within_tasks tasks seen all xs ys x at is place pairs in
    subst (λ k. IsDeviceFor (kind_files k) (seen x)) (kind_here tasks at task known here)
    (subst (λ dv. IsDeviceFor (kind_files (kind_at tasks at)) dv) (device_behind seen xs ys x all at is place)
    (pairs.each at known))

-- it is as it was opened
pub fresh_here : {X : Type 0} (seen : X → DeviceSeen) (all xs ys : List X) (x : X) (at : ℕ) →
    xs ++ x ∷ ys ≡ all → at ≡ length xs → AreFresh (map seen all) → IsFresh (seen x)
fresh_here seen all xs ys x at is place fresh = subst IsFresh (device_behind seen xs ys x all at is place) (fresh at)

-- what holds of each machine and its device holds of a list with one more
pub each_pushed : {X M : Type 0} (P : ℕ → DeviceSeen → M → Type 0) (seen : X → DeviceSeen) (devices : List X) (x : X)
    (ms : List M) (m : M) (now : List M) → now ≡ ms ++ m ∷ [] → length ms ≡ length devices →
    ((t : ℕ) (d : M) → t < length devices → P t (device_at (map seen devices) t) (get_or ms t d)) →
    P (length devices) (seen x) m → (t : ℕ) (d : M) → t < length (devices ++ x ∷ []) →
    P t (device_at (map seen (devices ++ x ∷ [])) t) (get_or now t d)
each_pushed P seen devices x ms m now pushed count old new t d known =
    subst (λ zs. P t (device_at (map seen (devices ++ x ∷ [])) t) (get_or zs t d)) (sym pushed)
    (each_more P seen devices x ms m count old new t d known)

-- ---- areas

-- the area that is taken for a task is one for its kind
pub area_here : (tasks : List TaskValue) (at : ℕ) (task : TaskValue) → at < length tasks → task ≡ get_or tasks at task →
    (all areas : List (Option Area)) (area : Option Area) → AreAreasFor tasks all → area_at areas at ≡ area_at all at →
    area ≡ area_at areas at → IsGivenWhere (reads_area task.kind) area (λ a. ⊤)
area_here tasks at task known here all areas area are left taken =
    subst (λ kind. IsGivenWhere (reads_area kind) area (λ a. ⊤)) (kind_here tasks at task known here)
    (subst (λ o. IsGivenWhere (reads_area (kind_at tasks at)) o (λ a. ⊤)) (sym (taken ∙ left)) (are.each at known))

-- an area that is taken out leaves the others
pub area_beside : (areas : List (Option Area)) (at t : ℕ) → at < t →
    area_at (slice_set areas at None) t ≡ area_at areas t
area_beside areas at t less = get_or-set_other areas at t None None (λ is. absurd (omega (arith, less, is)))
