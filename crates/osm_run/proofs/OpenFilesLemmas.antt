-- What the tasks of a graph, and their open files, say of the devices of the tasks.
use Rattle.std.proofs.Common.{◌≡◌, ℕ, zero, suc, ◌<◌, ◌≤◌, List, [], ◌∷◌, length, Bool, true, false, ◌&&◌, ◌||◌, inl, inr, refl, sym, ap, subst, ◌∙◌, arith}
use Rattle.std.specs.Prelude.{Contains, Option, Some, None, flat_map, get_or}
use Rattle.std.specs.List.{AllByRecursion}
use Rattle.std.proofs.lemmas.Bool.{cases_lt}
use Rattle.std.proofs.lemmas.List.Elements.{Contains-append_right}
use Rattle.std.proofs.lemmas.Slice.Eq.{bytes_eq-Decides}
use Rattle.osm_entity.specs.Meaning.{Meaning}
use Rattle.osm_graph.specs.Files.{are_same_file, clashes}
use Rattle.osm_graph.specs.Graphs.{no_task}
use Rattle.osm_host.specs.Contents.{Files, IsEmptyWhereTold}
use Rattle.osm_host.specs.Moments.{Moment}
use Rattle.osm_machine.specs.Sinks.{TookNothing}
use Rattle.osm_tasks.specs.Kinds.{file_of, writes_file}
use Rattle.osm_tasks.specs.Tasks.{TaskValue}
use Rattle.osm_tasks.specs.declared.kind.TaskKind.{TaskKind}
use Rattle.osm_tasks.specs.declared.kind.TaskKind.TheVariants.{ReadPbf, ReadOpl, ReadOplChange, ReadEmpty, ReadMade, WritePbf, WriteOpl, WriteOplChange, WriteNull, WriteSummary, Merge, MergeChange, AppendChange, ApplyChange, SimplifyChange, Tee, Buffer, Spool, BoundingBox, BoundingPolygon, TagFilter, UsedNode, UsedWay, Sort, SortChange}
use Rattle.osm_run.specs.Closed.{AreSinksApart, CanClose, CanCloseAll, DevicesTell}
use Rattle.osm_run.specs.Commands.{kind_at, kind_files, plan_of}
use Rattle.osm_run.specs.Course.{Course, entries, entry}
use Rattle.osm_run.specs.Leaving.{AreFresh, IsFresh}
use Rattle.osm_run.specs.Opened.{AreOpened, IsOpenedAs}
use Rattle.osm_run.specs.Plan.{File, Plan, Polygon, Source, Store, Sink, Use, names_of, openings, uses}
use Rattle.osm_run.specs.Went.{AreDevicesFor, DeviceSeen, DeviceTells, IsDeviceFor, NoDevice, SeenSink, SeenSource, device_at}
use Rattle.osm_run.proofs.CountedLemmas.{all_among}
use Rattle.osm_run.proofs.EachLemmas.{all_flat_map, all_more}
use Rattle.osm_run.proofs.PlaceLemmas.{files_at, files_of_all, length_plan}
use Rattle.osm_run.proofs.PlanLemmas.{all_uses}

-- a device that was opened for some files is one for them
device_for : (files : Option Files) (fs : List File) (d : DeviceSeen) → IsOpenedAs files fs d → IsDeviceFor fs d
device_for files [] NoDevice is = tt
device_for files [] (SeenSource s) is = absurd is
device_for files [] (SeenSink s) is = absurd is
device_for files (Source name ∷ []) NoDevice is = absurd is
device_for files (Source name ∷ []) (SeenSource s) is = is.name_is
device_for files (Source name ∷ []) (SeenSink s) is = absurd is
device_for files (Sink name ∷ []) NoDevice is = absurd is
device_for files (Sink name ∷ []) (SeenSource s) is = absurd is
device_for files (Sink name ∷ []) (SeenSink s) is = is.name_is
device_for files (Polygon name ∷ []) d is = absurd is
device_for files (Store ∷ []) d is = absurd is
device_for files (Source name ∷ other ∷ fs) d is = absurd is
device_for files (Sink name ∷ other ∷ fs) d is = absurd is
device_for files (Polygon name ∷ other ∷ fs) d is = absurd is
device_for files (Store ∷ other ∷ fs) d is = absurd is

pub devices_for : (tasks : List TaskValue) (before now : Moment) (devices : List DeviceSeen) →
    AreOpened (plan_of tasks) before now devices → AreDevicesFor tasks devices
devices_for tasks before now devices opened = record {
  count = opened.count ∙ length_plan tasks;
  each = λ t known. device_for before.files (kind_files (kind_at tasks t)) (device_at devices t)
      (subst (λ fs. IsOpenedAs before.files fs (device_at devices t)) (files_at tasks t known)
      (opened.each t (omega (arith, known, length_plan tasks))));
}

-- a sink that was opened took nothing
empty_sink : (files : Option Files) (taken : Option (List ℕ)) → IsEmptyWhereTold files taken → TookNothing taken
empty_sink None taken is = is
empty_sink (Some files) taken is = subst TookNothing (sym is) refl

fresh_device : (files : Option Files) (fs : List File) (d : DeviceSeen) → IsOpenedAs files fs d → IsFresh d
fresh_device files fs NoDevice is = tt
fresh_device files fs (SeenSource s) is = tt
fresh_device files [] (SeenSink s) is = absurd is
fresh_device files (Source name ∷ []) (SeenSink s) is = absurd is
fresh_device files (Sink name ∷ []) (SeenSink s) is = empty_sink files s.taken is.taken
fresh_device files (Polygon name ∷ []) (SeenSink s) is = absurd is
fresh_device files (Store ∷ []) (SeenSink s) is = absurd is
fresh_device files (Source name ∷ other ∷ fs) (SeenSink s) is = absurd is
fresh_device files (Sink name ∷ other ∷ fs) (SeenSink s) is = absurd is
fresh_device files (Polygon name ∷ other ∷ fs) (SeenSink s) is = absurd is
fresh_device files (Store ∷ other ∷ fs) (SeenSink s) is = absurd is

past_devices : (devices : List DeviceSeen) (t : ℕ) → length devices ≤ t → IsFresh (device_at devices t)
past_devices [] t le = tt
past_devices (d ∷ devices) zero le = absurd (omega (arith, le))
past_devices (d ∷ devices) (suc t) le = past_devices devices t (omega (arith, le))

pub fresh_devices : (plan : Plan) (before now : Moment) (devices : List DeviceSeen) →
    AreOpened plan before now devices → AreFresh devices
fresh_devices plan before now devices opened t = elim (cases_lt t (length devices)) [
  | inl known ↦ fresh_device before.files (get_or plan t []) (device_at devices t)
      (opened.each t (omega (arith, known, opened.count)))
  | inr past ↦ past_devices devices t past
]

one_sink : (one other : List ℕ) → Sink one ∷ [] ≡ Sink other ∷ [] → one ≡ other
one_sink one other is = cc

no_sink : (name : List ℕ) {P : Type 0} → [] ≡ Sink name ∷ [] → P
no_sink name is = cc

-- where a kind's file is a sink of this name, that is its file
named_sink : (file name : List ℕ) → Sink file ∷ [] ≡ Sink name ∷ [] → (Some file ≡ Some name) × (true ≡ true)
named_sink file name is = (ap (λ n. Some n) (one_sink file name is), refl)

-- a kind whose file is a sink of this name writes it
written_of : (kind : TaskKind) (name : List ℕ) → kind_files kind ≡ Sink name ∷ [] →
    (file_of kind ≡ Some name) × (writes_file kind ≡ true)
written_of (ReadPbf file) name is = let no : Source file ∷ [] ≡ Sink name ∷ [] = is in cc
written_of (ReadOpl file) name is = let no : Source file ∷ [] ≡ Sink name ∷ [] = is in cc
written_of (ReadOplChange file) name is = let no : Source file ∷ [] ≡ Sink name ∷ [] = is in cc
written_of ReadEmpty name is = no_sink name is
written_of (ReadMade count seed) name is = no_sink name is
written_of (WritePbf file batchlimit usedense omitmetadata granularity) name is = named_sink file name is
written_of (WriteOpl file) name is = named_sink file name is
written_of (WriteOplChange file) name is = named_sink file name is
written_of WriteNull name is = no_sink name is
written_of (WriteSummary file) name is = named_sink file name is
written_of (Merge resolution) name is = no_sink name is
written_of (MergeChange resolution) name is = no_sink name is
written_of AppendChange name is = no_sink name is
written_of ApplyChange name is = no_sink name is
written_of SimplifyChange name is = no_sink name is
written_of (Tee flow outputs) name is = no_sink name is
written_of (Buffer flow capacity) name is = no_sink name is
written_of (Spool flow) name is = no_sink name is
written_of (BoundingBox left right top bottom options) name is = no_sink name is
written_of (BoundingPolygon file options) name is = no_sink name is
written_of (TagFilter accept kind tests) name is = no_sink name is
written_of UsedNode name is = no_sink name is
written_of UsedWay name is = no_sink name is
written_of Sort name is = no_sink name is
written_of SortChange name is = no_sink name is

-- two kinds that write one file clash
same_sinks : (one other : TaskKind) (name : List ℕ) → kind_files one ≡ Sink name ∷ [] →
    kind_files other ≡ Sink name ∷ [] → clashes one other ≡ true
same_sinks one other name is also =
    let first = written_of one name is in
    let second = written_of other name also in
    ap (λ o. are_same_file o (file_of other) && (writes_file one || writes_file other)) first.0
    ∙ ap (λ o. are_same_file (Some name) o && (writes_file one || writes_file other)) second.0
    ∙ ap (λ b. b && (writes_file one || writes_file other)) ((bytes_eq-Decides name name).1 refl)
    ∙ ap (λ b. b || writes_file other) first.1

pub sinks_apart : (tasks : List TaskValue) → ((i j : ℕ) → i < j → j < length tasks →
    clashes (get_or tasks i no_task).kind (get_or tasks j no_task).kind ≡ false) → AreSinksApart (plan_of tasks)
sinks_apart tasks apart i j name less within first second =
    let known : j < length tasks = omega (arith, within, length_plan tasks) in
    let earlier : i < length tasks = omega (arith, known, less) in
    let both : true ≡ false =
    sym (same_sinks (kind_at tasks i) (kind_at tasks j) name (sym (files_at tasks i earlier) ∙ first)
    (sym (files_at tasks j known) ∙ second)) ∙ apart i j less known in
    cc

-- what a device tells, and the names that a host knows, let it be given back
closable : (names : List (List ℕ)) (files : Option Files) (c : Course) (m : Meaning) (memory : Bool) (t : ℕ)
    (fs : List File) (o d : DeviceSeen) → IsOpenedAs files fs o → DeviceTells c m memory t o d →
    AllByRecursion (λ file. AllByRecursion (Contains names) (names_of (t, file))) fs → CanClose names fs d
closable names files c m memory t [] NoDevice NoDevice is told known = tt
closable names files c m memory t [] NoDevice (SeenSource n) is told known = absurd told
closable names files c m memory t [] NoDevice (SeenSink n) is told known = absurd told
closable names files c m memory t [] (SeenSource s) d is told known = absurd is
closable names files c m memory t [] (SeenSink s) d is told known = absurd is
closable names files c m memory t (Source name ∷ []) NoDevice d is told known = absurd is
closable names files c m memory t (Source name ∷ []) (SeenSource s) NoDevice is told known = absurd told
closable names files c m memory t (Source name ∷ []) (SeenSource s) (SeenSource n) is told known =
    (told.name ∙ is.name_is, known.0.0)
closable names files c m memory t (Source name ∷ []) (SeenSource s) (SeenSink n) is told known = absurd told
closable names files c m memory t (Source name ∷ []) (SeenSink s) d is told known = absurd is
closable names files c m memory t (Sink name ∷ []) NoDevice d is told known = absurd is
closable names files c m memory t (Sink name ∷ []) (SeenSource s) d is told known = absurd is
closable names files c m memory t (Sink name ∷ []) (SeenSink s) NoDevice is told known = absurd told
closable names files c m memory t (Sink name ∷ []) (SeenSink s) (SeenSource n) is told known = absurd told
closable names files c m memory t (Sink name ∷ []) (SeenSink s) (SeenSink n) is told known =
    (told.name ∙ is.name_is, known.0.0)
closable names files c m memory t (Polygon name ∷ []) o d is told known = absurd is
closable names files c m memory t (Store ∷ []) o d is told known = absurd is
closable names files c m memory t (Source name ∷ other ∷ fs) o d is told known = absurd is
closable names files c m memory t (Sink name ∷ other ∷ fs) o d is told known = absurd is
closable names files c m memory t (Polygon name ∷ other ∷ fs) o d is told known = absurd is
closable names files c m memory t (Store ∷ other ∷ fs) o d is told known = absurd is

-- the host knows the names of all files that were opened
names_known : (tasks : List TaskValue) (before now : Moment) (devices : List DeviceSeen) →
    AreOpened (plan_of tasks) before now devices →
    AllByRecursion (λ u. AllByRecursion (Contains now.known) (names_of u)) (uses (plan_of tasks))
names_known tasks before now devices opened =
    let all : List (List ℕ) = flat_map names_of (openings (plan_of tasks)) in
    all_uses (λ u. AllByRecursion (Contains now.known) (names_of u)) (plan_of tasks)
    (all_flat_map (Contains now.known) names_of (openings (plan_of tasks))
    (all_more (Contains all) (Contains now.known)
    (λ n has. (opened.known n).1 (Contains-append_right before.known all n has)) all (all_among all)))

pub can_close : (tasks : List TaskValue) (before middle : Moment) (c : Course) (m : Meaning) (memory : Bool)
    (opened devices : List DeviceSeen) → AreOpened (plan_of tasks) before middle opened →
    DevicesTell (plan_of tasks) c m memory opened devices → CanCloseAll (plan_of tasks) middle.known devices
can_close tasks before middle c m memory opened devices is tells = record {
  count = tells.count;
  each = λ t within.
      let known : t < length tasks = omega (arith, within, length_plan tasks) in
      closable middle.known before.files c m memory t (get_or (plan_of tasks) t []) (device_at opened t)
      (device_at devices t) (is.each t within) (tells.told t within)
      (subst (AllByRecursion (λ file. AllByRecursion (Contains middle.known) (names_of (t, file))))
      (sym (files_at tasks t known))
      (files_of_all (λ u. AllByRecursion (Contains middle.known) (names_of u)) tasks
      (names_known tasks before middle opened is) t known));
}

-- there are as many entries, whatever came
entries_alike : (c d : Course) (us : List Use) → length (flat_map (entry c) us) ≡ length (flat_map (entry d) us)
entries_alike c d [] = refl
entries_alike c d ((task, Polygon name) ∷ us) = entries_alike c d us
entries_alike c d ((task, Source name) ∷ us) = ap suc (entries_alike c d us)
entries_alike c d ((task, Store) ∷ us) = entries_alike c d us
entries_alike c d ((task, Sink name) ∷ us) = entries_alike c d us

pub as_many_entries : (plan : Plan) (c d : Course) → length (entries plan c) ≡ length (entries plan d)
as_many_entries plan c d = entries_alike c d (uses plan)
