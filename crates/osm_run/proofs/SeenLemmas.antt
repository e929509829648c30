-- Tasks and devices as the code has them, and as contracts see them.
use Rattle.std.proofs.Common.{◌≡◌, ℕ, ◌+◌, ◌<◌, List, [], ◌∷◌, ◌++◌, length, map, get_or, set, take, replicate, false, refl, sym, ap, ◌∙◌}
use Rattle.std.specs.Prelude.{Option, Some, None, flat_map}
use Rattle.std.proofs.lemmas.Grind.{flat_map-append}
use Rattle.std.proofs.lemmas.List.{append-nil, get_or-map, length-map, length-replicate, map-append, map-set, replicate-append-replicate}
use Rattle.osm_tasks.specs.Tasks.{TaskValue}
use Rattle.osm_tasks.specs.declared.kind.TaskKind.{TaskKind}
use Rattle.osm_run.specs.Commands.{kind_files, plan_of}
use Rattle.osm_run.specs.Course.{entries, entry}
use Rattle.osm_run.specs.Opened.{ReadsOrWrites, course_at_rest, sink_name, source_name}
use Rattle.osm_run.specs.Plan.{Plan, Source, uses, uses_of}
use Rattle.osm_run.specs.Went.{DeviceSeen, NoDevice, device_at}
use Rattle.osm_run.proofs.UsesLemmas.{by_plain, source_files, uses-take, uses-take_all}

-- the files of the task of a number
pub plan_at : (tasks : List TaskValue) (t : ℕ) (task : TaskValue) → t < length tasks → task ≡ get_or tasks t task →
    get_or (plan_of tasks) t [] ≡ kind_files task.kind
plan_at tasks t task within is =
    get_or-map (λ (x : TaskValue). kind_files x.kind) tasks t task [] within
    ∙ ap (λ (x : TaskValue). kind_files x.kind) (sym is)

pub length-plan_of : (tasks : List TaskValue) → length (plan_of tasks) ≡ length tasks
length-plan_of tasks = length-map tasks (λ (x : TaskValue). kind_files x.kind)

-- the device of the task of a number
pub seen_at : {X : Type 0} (seen : X → DeviceSeen) (devices : List X) (t : ℕ) (device : X) → t < length devices →
    device ≡ get_or devices t device → device_at (map seen devices) t ≡ seen device
seen_at seen devices t device within is =
    get_or-map seen devices t device NoDevice within ∙ ap seen (sym is)

-- a device put into its place
pub seen_set : {X : Type 0} (seen : X → DeviceSeen) (devices new : List X) (t : ℕ) (device : X) →
    new ≡ set devices t device → map seen new ≡ set (map seen devices) t (seen device)
seen_set seen devices new t device is = ap (map seen) is ∙ map-set seen devices t device

-- the file that the task of a number reads, and the one that it writes
pub source_named : (tasks : List TaskValue) (t : ℕ) (task : TaskValue) (kind : TaskKind) (name : Option (List ℕ)) →
    t < length tasks → task ≡ get_or tasks t task → kind ≡ task.kind → name ≡ source_name (kind_files kind) →
    source_name (get_or (plan_of tasks) t []) ≡ name
source_named tasks t task kind name within is same named =
    ap source_name (plan_at tasks t task within is) ∙ ap (λ k. source_name (kind_files k)) (sym same) ∙ sym named

pub sink_named : (tasks : List TaskValue) (t : ℕ) (task : TaskValue) (kind : TaskKind) (name : Option (List ℕ)) →
    t < length tasks → task ≡ get_or tasks t task → kind ≡ task.kind → name ≡ sink_name (kind_files kind) →
    sink_name (get_or (plan_of tasks) t []) ≡ name
sink_named tasks t task kind name within is same named =
    ap sink_name (plan_at tasks t task within is) ∙ ap (λ k. sink_name (kind_files k)) (sym same) ∙ sym named

-- room for one device more
pub room_more : {X : Type 0} (seen : X → DeviceSeen) (devices : List X) (t : ℕ) (device : X) → seen device ≡ NoDevice →
    map seen devices ≡ replicate t NoDevice → map seen (devices ++ device ∷ []) ≡ replicate (t + 1) NoDevice
room_more seen devices t device none room =
    map-append seen devices (device ∷ []) ∙ ap (λ ds. ds ++ seen device ∷ []) room
    ∙ ap (λ d. replicate t NoDevice ++ d ∷ []) none ∙ replicate-append-replicate t 1 NoDevice

-- the entries of the first tasks, with that of one reader more
pub entries_more : (plan : Plan) (t : ℕ) (name : List ℕ) → t < length plan →
    source_name (get_or plan t []) ≡ Some name →
    flat_map (entry (course_at_rest [])) (uses (take (t + 1) plan))
    ≡ flat_map (entry (course_at_rest [])) (uses (take t plan)) ++ record { task = t; given = 0; clean = false } ∷ []
entries_more plan t name within named =
    ap (flat_map (entry (course_at_rest [])))
    (uses-take plan t within ∙ ap (λ fs. uses (take t plan) ++ uses_of (t, fs))
    (source_files (get_or plan t []) name named))
    ∙ flat_map-append (entry (course_at_rest [])) (uses (take t plan)) ((t, Source name) ∷ [])

-- and where the next task is none
pub entries_same_more : (plan : Plan) (t : ℕ) → t < length plan → ReadsOrWrites (get_or plan t []) →
    source_name (get_or plan t []) ≡ None →
    flat_map (entry (course_at_rest [])) (uses (take (t + 1) plan))
    ≡ flat_map (entry (course_at_rest [])) (uses (take t plan))
entries_same_more plan t within plain none =
    ap (flat_map (entry (course_at_rest []))) (uses-take plan t within)
    ∙ flat_map-append (entry (course_at_rest [])) (uses (take t plan)) (uses_of (t, get_or plan t []))
    ∙ ap (λ es. flat_map (entry (course_at_rest [])) (uses (take t plan)) ++ es)
    (by_plain (λ fs. source_name fs ≡ None → flat_map (entry (course_at_rest [])) (uses_of (t, fs)) ≡ [])
    (λ no_name. refl) (λ name no_name. absurd (let no : Some name ≡ None = no_name in cc)) (λ name no_name. refl)
    (get_or plan t []) plain none)
    ∙ append-nil (flat_map (entry (course_at_rest [])) (uses (take t plan)))

-- the entries of all tasks
pub entries_all : (tasks : List TaskValue) →
    flat_map (entry (course_at_rest [])) (uses (take (length tasks) (plan_of tasks)))
    ≡ entries (plan_of tasks) (course_at_rest [])
entries_all tasks = ap (λ n. flat_map (entry (course_at_rest [])) (uses (take n (plan_of tasks))))
    (sym (length-plan_of tasks)) ∙ ap (flat_map (entry (course_at_rest []))) (uses-take_all (plan_of tasks))

-- as many devices as tasks
pub seen_count : {X : Type 0} (seen : X → DeviceSeen) (devices : List X) (tasks : List TaskValue) →
    length (map seen devices) ≡ length (plan_of tasks) → length devices ≡ length tasks
seen_count seen devices tasks count = sym (length-map devices seen) ∙ count ∙ length-plan_of tasks

pub replicate_seen : (devices : List DeviceSeen) (tasks : List TaskValue) →
    devices ≡ replicate (length tasks) NoDevice → length devices ≡ length (plan_of tasks)
replicate_seen devices tasks is =
    ap length is ∙ length-replicate (length tasks) NoDevice ∙ sym (length-plan_of tasks)
