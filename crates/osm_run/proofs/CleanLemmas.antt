-- A run with no fault was clean: no call failed, each end came, and each writer holds its bytes.
use Rattle.std.proofs.Common.{◌≡◌, ℕ, List, [], ◌∷◌, ◌++◌, Bool, true, false, ◌&&◌, ◌||◌, refl, sym, ap, subst, ◌∙◌}
use Rattle.std.specs.Prelude.{flat_map, Option, Some, None}
use Rattle.std.specs.List.{AllByRecursion}
use Rattle.osm_entity.specs.Meaning.{Finish, Whole, Meaning}
use Rattle.osm_host.specs.Contents.{Files}
use Rattle.osm_host.specs.Moments.{Moment}
use Rattle.osm_host.specs.declared.outside.Op.{Op}
use Rattle.osm_host.specs.declared.outside.Op.TheVariants.{Open as OpenOp, Make, Pull, Put, Keep as KeepOp}
use Rattle.osm_report.specs.declared.fault.Fault.TheVariants.{Clean, Memory}
use Rattle.osm_report.specs.declared.fault.DeviceCall.TheVariants.{Open, Write, Keep, Spill}
use Rattle.osm_run.specs.Plan.{Polygon, Source, Store, Sink, Use, numbered, uses, openings, is_named, is_called, is_store}
use Rattle.osm_run.specs.Command.{Command}
use Rattle.osm_run.specs.Course.{Course, source_limit, polygon_limit, meaning_of, call_fault, cut_fault, wrong_fault, opening_faults, file_faults, task_faults, keep_faults, run_faults, entry, any_failed, is_spilled, is_cut_short}
use Rattle.osm_run.specs.OnHost.{CountsBy}
use Rattle.osm_run.specs.HowFar.{WhereTold, HowRead, ReachedEnd, PassedLimit, PullFailed, WasWrong, WasUsed, IsFileOf, IsWritten, FilesAfter, AfterTasks, AfterStop, HowFar, Stopped, Ran, OutOfMemory}
use Rattle.osm_run.specs.Outcome.{IsRun}
use Rattle.osm_run.specs.Headline.{EachFileNow, HoldsBytes}
use Rattle.osm_run.specs.Lawful.{EndCame, IsRight, EndsWhole, IsLawful}
use Rattle.osm_run.specs.declared.status.Status.{Status}
use Rattle.osm_run.proofs.EachLemmas.{all_more, all_both, all_pairs, flat_map_all, none_left, none_right, none_each, none_any}
use Rattle.osm_run.proofs.PlanLemmas.{all_uses, all_openings, tasks_all}
use Rattle.osm_run.proofs.FirstFaultLemmas.{IsMet, is_met, opening_met, faults_met, first_none, call_none, cut_none}

-- a file at which nothing went wrong
pub record IsQuiet (k : Command) (c : Course) (u : Use) : Type 0 where
  pub opening : opening_faults k c u ≡ []
  pub used : WasUsed k c u
  pub file : file_faults c u.0 u.1 ≡ []
  pub keep : keep_faults c u ≡ []

-- told files keep what holds of them, said in other words
pub told_more : (before after : Option Files) (P Q : Files → Files → Type 0) → WhereTold before after P →
    ((m n : Files) → P m n → Q m n) → WhereTold before after Q
told_more None after P Q told more = tt
told_more (Some m) after P Q told more = (told.0, told.1, more m told.0 told.2)

-- the same, where it is known which files were told
pub told_by : (before after : Option Files) (P Q : Files → Files → Type 0) → WhereTold before after P →
    ((m n : Files) → before ≡ Some m → P m n → Q m n) → WhereTold before after Q
told_by None after P Q told more = tt
told_by (Some m) after P Q told more = (told.0, told.1, more m told.0 refl told.2)

-- what cannot be of one test
pub no_bool : {T : Type 0} (b : Bool) → b ≡ true → b ≡ false → T
no_bool b p q = absurd (let no : true ≡ false = sym p ∙ q in cc)

-- a file whose end came had no failed pull
pub ended_read : (c : Course) (task limit : ℕ) (finish : Finish) → HowRead c task limit finish → c.clean task ≡ true →
    c.failed Pull task ≡ false
ended_read c task limit finish (ReachedEnd clean unfailed within) ended = unfailed
ended_read c task limit finish (PassedLimit clean unfailed past) ended = unfailed
ended_read c task limit finish (PullFailed clean failed small) ended = no_bool (c.clean task) ended clean
ended_read c task limit finish (WasWrong cause spot clean wrong) ended = no_bool (c.clean task) ended clean

-- the parts of the faults of opening a polygon file
pub polygon_opened : (k : Command) (c : Course) (task : ℕ) (name : List ℕ) →
    opening_faults k c (task, Polygon name) ≡ [] → c.failed OpenOp task ≡ false
polygon_opened k c task name none =
    call_none task Open (c.failed OpenOp task)
    (none_left (call_fault task Open (c.failed OpenOp task)) (cut_fault c task polygon_limit)
    (none_left (call_fault task Open (c.failed OpenOp task) ++ cut_fault c task polygon_limit)
    (wrong_fault task (k.area (c.given task))) none))

pub polygon_ended : (k : Command) (c : Course) (task : ℕ) (name : List ℕ) →
    opening_faults k c (task, Polygon name) ≡ [] → c.clean task ≡ true
polygon_ended k c task name none =
    cut_none c task polygon_limit
    (none_right (call_fault task Open (c.failed OpenOp task)) (cut_fault c task polygon_limit)
    (none_left (call_fault task Open (c.failed OpenOp task) ++ cut_fault c task polygon_limit)
    (wrong_fault task (k.area (c.given task))) none))

-- no call failed at a quiet file
quiet_call : (k : Command) (c : Course) (op : Op) (u : Use) → IsQuiet k c u →
    (is_called op u && c.failed op u.0) ≡ false
quiet_call k c OpenOp (task, Polygon name) q = polygon_opened k c task name q.opening
quiet_call k c Pull (task, Polygon name) q =
    ended_read c task polygon_limit Whole q.used (polygon_ended k c task name q.opening)
quiet_call k c OpenOp (task, Source name) q = call_none task Open (c.failed OpenOp task) q.opening
quiet_call k c Pull (task, Source name) q =
    ended_read c task source_limit ((meaning_of k c).finish task) q.used (cut_none c task source_limit q.file)
quiet_call k c Make (task, Sink name) q = call_none task Open (c.failed Make task) q.opening
quiet_call k c Put (task, Sink name) q = call_none task Write (c.failed Put task) q.file
quiet_call k c KeepOp (task, Sink name) q = call_none task Keep (c.failed KeepOp task) q.keep
quiet_call k c op (task, file) q = refl

-- no store failed at a quiet file
quiet_store : (k : Command) (c : Course) (task : ℕ) (u : Use) → IsQuiet k c u →
    (is_store u && (c.spilled u.0 && k.leads u.0 task)) ≡ false
quiet_store k c task (t, Polygon name) q = refl
quiet_store k c task (t, Source name) q = refl
quiet_store k c task (t, Store) q = ap (λ b. b && k.leads t task) (call_none t Spill (c.spilled t) q.file)
quiet_store k c task (t, Sink name) q = refl

-- where there is no fault, no task is at fault
task_none : (k : Command) (c : Course) → run_faults k c ≡ [] →
    AllByRecursion (λ t. task_faults (meaning_of k c) c t ≡ []) (numbered k.plan)
task_none k c none = none_each (task_faults (meaning_of k c) c) (numbered k.plan)
    (none_left (flat_map (task_faults (meaning_of k c) c) (numbered k.plan)) (flat_map (keep_faults c) (uses k.plan))
    none)

-- where there is no fault, no task's input is wrong
all_right_inputs : (k : Command) (c : Course) → run_faults k c ≡ [] →
    AllByRecursion (IsRight (meaning_of k c)) (numbered k.plan)
all_right_inputs k c none =
    let m : Meaning = meaning_of k c in
    all_more (λ t. task_faults m c t ≡ []) (IsRight m)
    (λ t is. none_left (wrong_fault t.0 (m.finish t.0)) (flat_map (file_faults c t.0) t.1) is) (numbered k.plan)
    (task_none k c none)

-- the files of a run whose tasks ran without a fault are quiet
pub all_quiet : (k : Command) (c : Course) (before after : Moment) (status : Status) →
    AfterTasks k c before after status → run_faults k c ≡ [] → AllByRecursion (IsQuiet k c) (uses k.plan)
all_quiet k c before after status t none =
    let m : Meaning = meaning_of k c in
    let us : List Use = uses k.plan in
    let opening : AllByRecursion (λ u. opening_faults k c u ≡ []) us = all_uses (λ u. opening_faults k c u ≡ []) k.plan
    (none_each (opening_faults k c) (openings k.plan)
    (subst (λ us. flat_map (opening_faults k c) us ≡ []) t.opened t.fine)) in
    let file : AllByRecursion (λ u. file_faults c u.0 u.1 ≡ []) us = tasks_all (λ u. file_faults c u.0 u.1 ≡ []) k.plan
    (all_more (λ t. task_faults m c t ≡ []) (λ t. AllByRecursion (λ file. file_faults c t.0 file ≡ []) t.1)
    (λ t is. none_each (file_faults c t.0) t.1
    (none_right (wrong_fault t.0 (m.finish t.0)) (flat_map (file_faults c t.0) t.1) is)) (numbered k.plan)
    (task_none k c none)) in
    let keep : AllByRecursion (λ u. keep_faults c u ≡ []) us = none_each (keep_faults c) us
    (none_right (flat_map (task_faults m c) (numbered k.plan)) (flat_map (keep_faults c) us) none) in
    all_both (λ u. (opening_faults k c u ≡ []) × WasUsed k c u)
    (λ u. (file_faults c u.0 u.1 ≡ []) × (keep_faults c u ≡ [])) (IsQuiet k c)
    (λ u a b. record { opening = a.0; used = a.1; file = b.0; keep = b.1 }) us
    (all_pairs (λ u. opening_faults k c u ≡ []) (WasUsed k c) us opening t.used)
    (all_pairs (λ u. file_faults c u.0 u.1 ≡ []) (λ u. keep_faults c u ≡ []) us file keep)

quiet_end : (k : Command) (c : Course) (u : Use) → IsQuiet k c u → EndCame c.clean u
quiet_end k c (task, Polygon name) q = tt
quiet_end k c (task, Source name) q = cut_none c task source_limit q.file
quiet_end k c (task, Store) q = tt
quiet_end k c (task, Sink name) q = tt

clean_entry : (c : Course) (u : Use) → EndCame c.clean u → AllByRecursion (λ e. e.clean ≡ true) (entry c u)
clean_entry c (task, Polygon name) is = tt
clean_entry c (task, Source name) is = (is, tt)
clean_entry c (task, Store) is = tt
clean_entry c (task, Sink name) is = tt

and_false : (b c : Bool) → c ≡ false → (b && c) ≡ false
and_false true c is = is
and_false false c is = refl

-- no call of a quiet run failed
pub none_failed : (k : Command) (c : Course) → c.opened ≡ openings k.plan → AllByRecursion (IsQuiet k c) (uses k.plan) →
    (op : Op) (n : List ℕ) → any_failed c op n ≡ false
none_failed k c opened quiet op n =
    none_any (λ u. is_named n u && (is_called op u && c.failed op u.0)) c.opened
    (subst (AllByRecursion (λ u. (is_named n u && (is_called op u && c.failed op u.0)) ≡ false)) (sym opened)
    (all_openings (λ u. (is_named n u && (is_called op u && c.failed op u.0)) ≡ false) k.plan
    (all_more (IsQuiet k c) (λ u. (is_named n u && (is_called op u && c.failed op u.0)) ≡ false)
    (λ u q. and_false (is_named n u) (is_called op u && c.failed op u.0) (quiet_call k c op u q))
    (uses k.plan) quiet)))

-- where no call failed, a count is as it was
pub uncounted : (failed : Bool) (before after : ℕ) → failed ≡ false → CountsBy failed before after → after ≡ before
uncounted true before after none by = absurd (let no : true ≡ false = none in cc)
uncounted false before after none by = by

-- a writer that was not cut short and whose keep did not fail holds its bytes
pub held : (bytes : List ℕ) (short keep_failed : Bool) (file : Option (List ℕ)) → short ≡ false → keep_failed ≡ false →
    IsFileOf bytes short keep_failed file → file ≡ Some bytes
held bytes short true file whole kept is = absurd (let no : true ≡ false = kept in cc)
held bytes true false file whole kept is = absurd (let no : true ≡ false = whole in cc)
held bytes false false file whole kept is = is

-- no store of a quiet run failed
none_spilled : (k : Command) (c : Course) (task : ℕ) → AllByRecursion (IsQuiet k c) (uses k.plan) →
    is_spilled k c task ≡ false
none_spilled k c task quiet = none_any (λ u. is_store u && (c.spilled u.0 && k.leads u.0 task)) (uses k.plan)
    (all_more (IsQuiet k c) (λ u. (is_store u && (c.spilled u.0 && k.leads u.0 task)) ≡ false) (quiet_store k c task)
    (uses k.plan) quiet)

quiet_holds : (k : Command) (c : Course) (now : Files) → AllByRecursion (IsQuiet k c) (uses k.plan) → (u : Use) →
    IsQuiet k c u → IsWritten k c now u → HoldsBytes (meaning_of k c) now u
quiet_holds k c now quiet (task, Polygon name) q written = tt
quiet_holds k c now quiet (task, Source name) q written = tt
quiet_holds k c now quiet (task, Store) q written = tt
quiet_holds k c now quiet (task, Sink name) q written =
    held ((meaning_of k c).bytes task) (is_cut_short k c task) (c.failed KeepOp task) _
    (ap (λ b. b || is_spilled k c task) (call_none task Write (c.failed Put task) q.file)
    ∙ none_spilled k c task quiet) (call_none task Keep (c.failed KeepOp task) q.keep) written

-- a run that stopped has a fault
stop_faulty : (k : Command) (c : Course) (before after : Moment) (status : Status) → status.fault ≡ Clean →
    AfterStop k c before after status → ⊥
stop_faulty k c before after status clean s =
    let met : AllByRecursion IsMet (status.fault ∷ s.fault.0) =
    subst (AllByRecursion IsMet) s.fault.1 (opening_met k c s.last) in
    let no : false ≡ true = sym (ap is_met clean) ∙ met.0 in cc

-- the tasks of a run without a fault ran, and its files are quiet
record RanQuiet (k : Command) (c : Course) (before after : Moment) (status : Status) : Type 0 where
  tasks : AfterTasks k c before after status
  none : run_faults k c ≡ []
  quiet : AllByRecursion (IsQuiet k c) (uses k.plan)

ran_quiet : (k : Command) (c : Course) (before after : Moment) (status : Status) → status.fault ≡ Clean →
    HowFar k c before after status → RanQuiet k c before after status
ran_quiet k c before after status clean (Stopped s) = absurd (stop_faulty k c before after status clean s)
ran_quiet k c before after status clean (OutOfMemory m) = absurd (let no : Clean ≡ Memory = sym clean ∙ m.fault in cc)
ran_quiet k c before after status clean (Ran t) =
    let none : run_faults k c ≡ [] = first_none (run_faults k c) (faults_met k c) (sym t.fault ∙ clean) in
    record { tasks = t; none = none; quiet = all_quiet k c before after status t none }

module _ (k : Command) (before after : Moment) (status : Status) (run : IsRun k before after status)
    (clean : status.fault ≡ Clean) where
  ran : RanQuiet k run.course before after status
  ran = ran_quiet k run.course before after status clean run.how_far

  -- the tasks ran
  pub clean_tasks : AfterTasks k run.course before after status
  clean_tasks = ran.tasks

  -- the end of each reader's file came
  pub ends_came : AllByRecursion (EndCame run.course.clean) (uses k.plan)
  ends_came =
      all_more (IsQuiet k run.course) (EndCame run.course.clean) (quiet_end k run.course) (uses k.plan) ran.quiet

  -- each entry is clean
  pub clean_ends : AllByRecursion (λ e. e.clean ≡ true) status.ends
  clean_ends = subst (AllByRecursion (λ e. e.clean ≡ true)) (sym ran.tasks.ends)
      (flat_map_all (λ e. e.clean ≡ true) (entry run.course) (uses k.plan)
      (all_more (EndCame run.course.clean) (λ u. AllByRecursion (λ e. e.clean ≡ true) (entry run.course u))
      (clean_entry run.course) (uses k.plan) ends_came))

  -- each task of a lawful command ended whole
  pub clean_finish : IsLawful k → AllByRecursion (EndsWhole (meaning_of k run.course)) (numbered k.plan)
  clean_finish lawful = lawful.whole (λ task. _) run.course.clean ends_came (all_right_inputs k run.course ran.none)

  -- each count is as it was
  pub clean_counts : (op : Op) (n : List ℕ) → after.count op n ≡ before.count op n
  clean_counts op n = uncounted (any_failed run.course op n) (before.count op n) (after.count op n)
      (none_failed k run.course ran.tasks.opened ran.quiet op n) (run.is_course.counts op n)

  -- each writer holds its bytes
  pub clean_files : EachFileNow k.plan before after (HoldsBytes (meaning_of k run.course))
  clean_files = told_more before.files after.files (FilesAfter k run.course)
      (λ was now. AllByRecursion (HoldsBytes (meaning_of k run.course) now) (uses k.plan)) ran.tasks.files
      (λ was now files. all_both (IsQuiet k run.course) (IsWritten k run.course now)
      (HoldsBytes (meaning_of k run.course) now) (quiet_holds k run.course now ran.quiet) (uses k.plan) ran.quiet
      files.written)
