-- What a graph says of the files of its tasks, and what kept files say of a run.
use Rattle.std.proofs.Common.{◌≡◌, ℕ, ◌<◌, List, [], ◌∷◌, ◌++◌, length, take, Bool, true, false, ◌&&◌, ◌||◌, refl, sym, ap, subst, ◌∙◌, lt-ltb}
use Rattle.std.specs.Prelude.{Contains, Option, Some, flat_map, nat_lt}
use Rattle.std.specs.FinMap as finite
use Rattle.std.specs.List.{AllByRecursion, list_any}
use Rattle.std.specs.Str.{bytes_eq}
use Rattle.osm_host.specs.Contents.{Files}
use Rattle.osm_host.specs.declared.outside.Op.TheVariants.{Open, Make, Put, Keep}
use Rattle.osm_report.specs.declared.fault.DeviceCall.TheVariants.{Open as OpenCall, Spill}
use Rattle.osm_tasks.specs.Tasks.{TaskValue}
use Rattle.osm_tasks.specs.declared.kind.TaskKind.{TaskKind}
use Rattle.osm_tasks.specs.declared.kind.TaskKind.TheVariants.{ReadPbf, ReadOpl, ReadOplChange, ReadEmpty, ReadMade, WritePbf, WriteOpl, WriteOplChange, WriteNull, WriteSummary, Merge, MergeChange, AppendChange, ApplyChange, SimplifyChange, Tee, Buffer, Spool, BoundingBox, BoundingPolygon, TagFilter, UsedNode, UsedWay, Sort, SortChange}
use Rattle.osm_run.specs.Closed.{FilesKept, IsKeptFile}
use Rattle.osm_run.specs.Command.{Command}
use Rattle.osm_run.specs.Commands.{kind_at, kind_files, plan_of}
use Rattle.osm_run.specs.Course.{Course, call_fault, meaning_of, opening_faults}
use Rattle.osm_run.specs.HowFar.{FilesAfter, FilesAtMemory, HoldsPrefixBefore, IsFileOf, IsWritten, may_change}
use Rattle.osm_run.specs.Opened.{ReadsOrWrites}
use Rattle.osm_run.specs.Plan.{File, Polygon, Source, Store, Sink, Use, is_polygon, is_sink_named, is_store, openings, uses}
use Rattle.osm_run.proofs.CountedLemmas.{all_among}
use Rattle.osm_run.proofs.EachLemmas.{all_both, all_every, all_more, any_none, none_any}
use Rattle.osm_run.proofs.PlaceLemmas.{all_of_files}
use Rattle.osm_run.proofs.PlanLemmas.{all_openings, all_uses}
use Rattle.osm_run.proofs.UsesLemmas.{by_plain}

-- a kind has no file open while it runs, or one that it reads or writes
pub plain_files : (kind : TaskKind) → ReadsOrWrites (kind_files kind)
plain_files (ReadPbf file) = tt
plain_files (ReadOpl file) = tt
plain_files (ReadOplChange file) = tt
plain_files ReadEmpty = tt
plain_files (ReadMade count seed) = tt
plain_files (WritePbf file batchlimit usedense omitmetadata granularity) = tt
plain_files (WriteOpl file) = tt
plain_files (WriteOplChange file) = tt
plain_files WriteNull = tt
plain_files (WriteSummary file) = tt
plain_files (Merge resolution) = tt
plain_files (MergeChange resolution) = tt
plain_files AppendChange = tt
plain_files ApplyChange = tt
plain_files SimplifyChange = tt
plain_files (Tee flow outputs) = tt
plain_files (Buffer flow capacity) = tt
plain_files (Spool flow) = tt
plain_files (BoundingBox left right top bottom options) = tt
plain_files (BoundingPolygon file options) = tt
plain_files (TagFilter accept kind tests) = tt
plain_files UsedNode = tt
plain_files UsedWay = tt
plain_files Sort = tt
plain_files SortChange = tt

pub reads_or_writes : (tasks : List TaskValue) → AllByRecursion ReadsOrWrites (plan_of tasks)
reads_or_writes [] = tt
reads_or_writes (task ∷ tasks) = (plain_files task.kind, reads_or_writes tasks)

no_polygon_in : (t : ℕ) (files : List File) → ReadsOrWrites files →
    AllByRecursion (λ file. is_polygon (t, file) ≡ false) files
no_polygon_in t files plain =
    by_plain (λ fs. AllByRecursion (λ file. is_polygon (t, file) ≡ false) fs) tt (λ name. (refl, tt))
    (λ name. (refl, tt))
    files plain

pub no_polygon : (tasks : List TaskValue) → AllByRecursion (λ u. is_polygon u ≡ false) (uses (plan_of tasks))
no_polygon tasks =
    all_of_files (λ u. is_polygon u ≡ false) tasks
    (λ t known. no_polygon_in t (kind_files (kind_at tasks t)) (plain_files (kind_at tasks t)))

-- no file failed to open
opened_fine : (k : Command) (c : Course) → ((t : ℕ) → c.failed Open t ≡ false) → ((t : ℕ) → c.failed Make t ≡ false) →
    (u : Use) → is_polygon u ≡ false → opening_faults k c u ≡ []
opened_fine k c opens makes (task, Polygon name) plain = let no : true ≡ false = plain in cc
opened_fine k c opens makes (task, Source name) plain = ap (call_fault task OpenCall) (opens task)
opened_fine k c opens makes (task, Store) plain = ap (call_fault task Spill) (opens task)
opened_fine k c opens makes (task, Sink name) plain = ap (call_fault task OpenCall) (makes task)

none_of : {X Y : Type 0} (f : X → List Y) (xs : List X) → AllByRecursion (λ x. f x ≡ []) xs → flat_map f xs ≡ []
none_of f [] all = refl
none_of f (x ∷ xs) all = ap (λ ys. ys ++ flat_map f xs) all.0 ∙ none_of f xs all.1

pub nothing_failed_to_open : (k : Command) (c : Course) → AllByRecursion (λ u. is_polygon u ≡ false) (uses k.plan) →
    ((t : ℕ) → c.failed Open t ≡ false) → ((t : ℕ) → c.failed Make t ≡ false) →
    flat_map (opening_faults k c) (openings k.plan) ≡ []
nothing_failed_to_open k c plain opens makes =
    none_of (opening_faults k c) (openings k.plan)
    (all_more (λ u. is_polygon u ≡ false) (λ u. opening_faults k c u ≡ []) (opened_fine k c opens makes)
    (openings k.plan)
    (all_openings (λ u. is_polygon u ≡ false) k.plan plain))

no_store : (store leads spilled : Bool) → spilled ≡ false → (store && (spilled && leads)) ≡ false
no_store true leads spilled is = ap (λ b. b && leads) is
no_store false leads spilled is = refl

-- no store failed
unspilled : (k : Command) (c : Course) (task : ℕ) → ((t : ℕ) → c.spilled t ≡ false) → (us : List Use) →
    list_any (λ u. is_store u && (c.spilled u.0 && k.leads u.0 task)) us ≡ false
unspilled k c task none us =
    none_any (λ u. is_store u && (c.spilled u.0 && k.leads u.0 task)) us
    (all_every (λ u. (is_store u && (c.spilled u.0 && k.leads u.0 task)) ≡ false)
    (λ u. no_store (is_store u) (k.leads u.0 task) (c.spilled u.0) (none u.0)) us)

or_false : (b : Bool) → (b || false) ≡ b
or_false true = refl
or_false false = refl

written_of : (k : Command) (c : Course) (now : Files) → ((t : ℕ) → c.spilled t ≡ false) → (u : Use) →
    IsKeptFile c (meaning_of k c) false now u → IsWritten k c now u
written_of k c now none (task, Polygon name) kept = tt
written_of k c now none (task, Source name) kept = tt
written_of k c now none (task, Store) kept = tt
written_of k c now none (task, Sink name) kept =
    subst (λ short. IsFileOf ((meaning_of k c).bytes task) short (c.failed Keep task) (finite.get now name))
    (sym (ap (λ b. c.failed Put task || b) (unspilled k c task none (uses k.plan)) ∙ or_false (c.failed Put task))) kept

pub files_after_tasks : (k : Command) (c : Course) (before now : Files) → ((t : ℕ) → c.spilled t ≡ false) →
    FilesKept k.plan c (meaning_of k c) false before now → FilesAfter k c before now
files_after_tasks k c before now none kept = record {
  written = all_more (IsKeptFile c (meaning_of k c) false now) (IsWritten k c now) (written_of k c now none)
      (uses k.plan)
      kept.written;
  others = kept.others;
}

take_all : (xs : List ℕ) → take (length xs) xs ≡ xs
take_all [] = refl
take_all (x ∷ xs) = ap (λ ys. x ∷ ys) (take_all xs)

-- a file whose keep didn't fail is the first bytes of its task's
first_bytes : (bytes : List ℕ) (short failed : Bool) (file : Option (List ℕ)) → IsFileOf bytes short failed file →
    failed ≡ false → (size : ℕ) × (file ≡ Some (take size bytes))
first_bytes bytes short true file is fine = absurd (let no : true ≡ false = fine in cc)
first_bytes bytes true false file is fine = is
first_bytes bytes false false file is fine = (length bytes, is ∙ ap (λ b. Some b) (sym (take_all bytes)))

prefix_of : (k : Command) (c : Course) (memory : Bool) (place : ℕ) (now : Files) (u : Use) → Contains c.opened u →
    IsKeptFile c (meaning_of k c) memory now u → HoldsPrefixBefore k c place now u
prefix_of k c memory place now (task, Polygon name) opened kept = tt
prefix_of k c memory place now (task, Source name) opened kept = tt
prefix_of k c memory place now (task, Store) opened kept = tt
prefix_of k c memory place now (task, Sink name) opened kept = λ known. record {
  opened = opened;
  prefix = λ fine. first_bytes ((meaning_of k c).bytes task) (memory || c.failed Put task) (c.failed Keep task)
      (finite.get now name) kept fine;
}

named_not : (named there failed : Bool) → there ≡ true → (named && (there || failed)) ≡ false → named ≡ false
named_not true true failed is none = none
named_not true false failed is none = absurd (let no : false ≡ true = is in cc)
named_not false there failed is none = refl

-- what may not change is no sink of that name
not_named : (c : Course) (place : ℕ) (n : List ℕ) (u : Use) → u.0 < place → may_change c place n u ≡ false →
    is_sink_named n u ≡ false
not_named c place n (task, Polygon name) below none = refl
not_named c place n (task, Source name) below none = refl
not_named c place n (task, Store) below none = refl
not_named c place n (task, Sink name) below none =
    named_not (bytes_eq n name) (nat_lt task place) (c.failed Keep task) (lt-ltb task place below) none

pub files_at_memory : (k : Command) (c : Course) (memory : Bool) (place : ℕ) (before now : Files) →
    c.opened ≡ openings k.plan → AllByRecursion (λ u. u.0 < place) (uses k.plan) →
    FilesKept k.plan c (meaning_of k c) memory before now → FilesAtMemory k c place before now
files_at_memory k c memory place before now opened below kept = record {
  written = all_both (Contains c.opened) (IsKeptFile c (meaning_of k c) memory now) (HoldsPrefixBefore k c place now)
      (prefix_of k c memory place now) (uses k.plan)
      (all_uses (Contains c.opened) k.plan (subst (AllByRecursion (Contains c.opened)) opened (all_among c.opened)))
      kept.written;
  others = λ n none. kept.others n (none_any (is_sink_named n) (uses k.plan)
      (all_both (λ u. u.0 < place) (λ u. may_change c place n u ≡ false) (λ u. is_sink_named n u ≡ false)
      (not_named c place n) (uses k.plan) below
      (all_uses (λ u. may_change c place n u ≡ false) k.plan
      (any_none (may_change c place n) (openings k.plan)
      (subst (λ us. list_any (may_change c place n) us ≡ false) opened none)))));
}

below_all : (t place : ℕ) (files : List File) → t < place → AllByRecursion (λ (file : File). t < place) files
below_all t place [] below = tt
below_all t place (file ∷ files) below = (below, below_all t place files below)

pub uses_below : (tasks : List TaskValue) → AllByRecursion (λ u. u.0 < length tasks) (uses (plan_of tasks))
uses_below tasks =
    all_of_files (λ u. u.0 < length tasks) tasks
    (λ t known. below_all t (length tasks) (kind_files (kind_at tasks t)) known)
