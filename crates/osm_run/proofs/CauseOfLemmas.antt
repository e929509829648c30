-- The cause of the fault of a run.
use Rattle.std.proofs.Common.{◌≡◌, ◌<◌, ℕ, List, [], ◌∷◌, ◌++◌, length, Bool, true, false, refl, sym, ap, subst, ◌∙◌, arith, inl, inr}
use Rattle.std.specs.Prelude.{flat_map, nat_lt, if◌then◌else◌, Contains}
use Rattle.std.specs.List.{AllByRecursion}
use Rattle.std.proofs.lemmas.List.{append-nil}
use Rattle.std.proofs.lemmas.Bool.{ltb-true, ltb-false}
use Rattle.osm_entity.specs.Meaning.{Finish, Whole, Passed, Cut, Wrong, Meaning}
use Rattle.osm_host.specs.Moments.{Moment}
use Rattle.osm_host.specs.declared.outside.Op.TheVariants.{Open as OpenOp, Make, Pull, Put, Keep as KeepOp}
use Rattle.osm_report.specs.declared.fault.Fault.{Fault}
use Rattle.osm_report.specs.declared.fault.Fault.TheVariants.{TooLong, Device, Input}
use Rattle.osm_report.specs.declared.fault.DeviceCall.{DeviceCall}
use Rattle.osm_report.specs.declared.fault.DeviceCall.TheVariants.{Open, Read, Write, Keep, Spill}
use Rattle.osm_run.specs.Plan.{File, Polygon, Source, Store, Sink, Use, numbered, uses, is_named, is_called}
use Rattle.osm_run.specs.Command.{Command}
use Rattle.osm_run.specs.Course.{Course, source_limit, polygon_limit, meaning_of, call_fault, wrong_fault, opening_faults, file_faults, task_faults, keep_faults, first_fault, entry, entries, any_failed}
use Rattle.osm_run.specs.OnHost.{IsCourse}
use Rattle.osm_run.specs.HowFar.{HowRead, ReachedEnd, PassedLimit, PullFailed, WasWrong, WasUsed, WasOpened, AfterTasks, HowFar, Stopped, Ran, OutOfMemory}
use Rattle.osm_run.specs.Outcome.{IsRun}
use Rattle.osm_run.specs.Causes.{GaveTooMuch, OfPolygon, OfSource, NoneClean, CauseOf, AtPolygon, AtTask}
use Rattle.osm_run.specs.Headline.{TellsReader}
use Rattle.osm_run.specs.declared.status.SourceEnd.{SourceEnd}
use Rattle.osm_run.specs.declared.status.Status.{Status}
use Rattle.osm_run.proofs.EachLemmas.{all_more, all_both, all_pairs, all_flat_map}
use Rattle.osm_run.proofs.PlanLemmas.{all_tasks}
use Rattle.osm_run.proofs.CleanLemmas.{no_bool, all_quiet, none_failed, uncounted}
use Rattle.osm_run.proofs.CountedLemmas.{bytes_eq-self, IsCounted, all_among, opened_counted, all_counted, last_opened, rose_at}
use Rattle.osm_run.proofs.StayLemmas.{entries_tell}
use Rattle.osm_run.proofs.FirstInLemmas.{IsFirst, first_in, all_at}

-- a file of a run whose tasks ran: its counts, how it was used, and its entry
record IsKnown (k : Command) (c : Course) (before after : Moment) (ends : List SourceEnd) (u : Use) : Type 0 where
  counted : IsCounted k before after c u
  used : WasUsed k c u
  entered : AllByRecursion (Contains ends) (entry c u)

-- no entry of a reader whose end did not come is clean
none_clean : (c : Course) (task : ℕ) → c.clean task ≡ false → (ends : List SourceEnd) →
    AllByRecursion (TellsReader c) ends → NoneClean ends task
none_clean c task cut =
    all_more (TellsReader c) (λ e. e.task ≡ task → e.clean ≡ false) (λ e tells of. tells.clean ∙ ap c.clean of ∙ cut)

module _ (k : Command) (c : Course) (before after : Moment) (ends : List SourceEnd)
    (tells : AllByRecursion (TellsReader c) ends) where
  -- a fault of a call
  call_cause : (task : ℕ) (call : DeviceCall) (b : Bool) (fault : Fault) (more : List Fault) →
      call_fault task call b ≡ fault ∷ more → (b ≡ true → CauseOf k c before after ends (Device task call)) →
      CauseOf k c before after ends fault
  call_cause task call true fault more is cause = subst (CauseOf k c before after ends) (ap first_fault is) (cause refl)
  call_cause task call false fault more is cause = cc

  -- a file whose end did not come within its limit, and that was not wrong, had a failed pull
  pull_failed : (task limit : ℕ) (finish : Finish) → wrong_fault task finish ≡ [] → c.clean task ≡ false →
      nat_lt limit (length (c.given task)) ≡ false → HowRead c task limit finish → c.failed Pull task ≡ true
  pull_failed task limit finish right cut short (ReachedEnd clean unfailed within) = no_bool (c.clean task) clean cut
  pull_failed task limit finish right cut short (PassedLimit clean unfailed past) =
      absurd (omega (arith, past, ltb-false limit (length (c.given task)) short))
  pull_failed task limit finish right cut short (PullFailed clean failed small) = failed
  pull_failed task limit finish right cut short (WasWrong cause spot clean wrong) =
      absurd (let no : Input task cause spot ∷ [] ≡ [] = sym (ap (wrong_fault task) wrong) ∙ right in cc)

  -- the fault of a file whose end did not come
  cut_case : (task limit : ℕ) (file : File) (name : List ℕ) (finish : Finish) (clean long : Bool) (fault : Fault)
      (more : List Fault) → IsCounted k before after c (task, file) → is_named name (task, file) ≡ true →
      is_called Pull (task, file) ≡ true → wrong_fault task finish ≡ [] → HowRead c task limit finish →
      (limit < length (c.given task) → GaveTooMuch k.plan c ends task) →
      c.clean task ≡ clean → nat_lt limit (length (c.given task)) ≡ long →
      (if clean then [] else (if long then TooLong task else Device task Read) ∷ []) ≡ fault ∷ more →
      CauseOf k c before after ends fault
  cut_case task limit file name finish true long fault more counted named called right how too_much cut size is = cc
  cut_case task limit file name finish false true fault more counted named called right how too_much cut size is =
      subst (CauseOf k c before after ends) (ap first_fault is)
      (too_much (ltb-true limit (length (c.given task)) size))
  cut_case task limit file name finish false false fault more counted named called right how too_much cut size is =
      subst (CauseOf k c before after ends) (ap first_fault is) (
        rose_at k c before after Pull task file name counted named called
            (pull_failed task limit finish right cut size how),
        none_clean c task cut ends tells,
      )

  -- the fault of opening a polygon file
  polygon_case : (task : ℕ) (name : List ℕ) (open_failed clean long : Bool) (finish : Finish) (fault : Fault)
      (more : List Fault) → IsCounted k before after c (task, Polygon name) → WasOpened c (task, Polygon name) →
      c.failed OpenOp task ≡ open_failed → c.clean task ≡ clean → nat_lt polygon_limit (length (c.given task)) ≡ long →
      k.area (c.given task) ≡ finish → call_fault task Open open_failed
      ++ (if clean then [] else (if long then TooLong task else Device task Read) ∷ []) ++ wrong_fault task finish
      ≡ fault ∷ more → CauseOf k c before after ends fault
  polygon_case task name true clean long finish fault more counted was opening cut size area is =
      subst (CauseOf k c before after ends) (ap first_fault is)
      (inl (rose_at k c before after OpenOp task (Polygon name) name counted (bytes_eq-self name) refl opening))
  polygon_case task name false clean long finish fault more counted (inl none) opening cut size area is =
      no_bool (c.failed OpenOp task) none.0 opening
  polygon_case task name false false long finish fault more counted (inr how) opening cut size area is =
      cut_case task polygon_limit (Polygon name) name Whole false long fault [] counted (bytes_eq-self name) refl refl
      how (λ past. OfPolygon name counted.among past) cut size (ap (λ f. f ∷ []) (ap first_fault is))
  polygon_case task name false true long Whole fault more counted (inr how) opening cut size area is = cc
  polygon_case task name false true long Passed fault more counted (inr how) opening cut size area is = cc
  polygon_case task name false true long Cut fault more counted (inr how) opening cut size area is = cc
  polygon_case task name false true long (Wrong cause spot) fault more counted (inr how) opening cut size area is =
      subst (CauseOf k c before after ends) (ap first_fault is) (AtPolygon name counted.among cut area)

  opening_cause : (u : Use) (fault : Fault) (more : List Fault) → IsCounted k before after c u → WasOpened c u →
      opening_faults k c u ≡ fault ∷ more → CauseOf k c before after ends fault
  opening_cause (task, Polygon name) fault more counted was is =
      polygon_case task name (c.failed OpenOp task) (c.clean task) (nat_lt polygon_limit (length (c.given task)))
      (k.area (c.given task)) fault more counted was refl refl refl refl is
  opening_cause (task, Source name) fault more counted was is =
      call_cause task Open (c.failed OpenOp task) fault more is
      (λ failed. inl (rose_at k c before after OpenOp task (Source name) name counted (bytes_eq-self name) refl failed))
  opening_cause (task, Store) fault more counted was is =
      call_cause task Spill (c.failed OpenOp task) fault more is (λ failed. (counted.among, inl failed))
  opening_cause (task, Sink name) fault more counted was is =
      call_cause task Open (c.failed Make task) fault more is
      (λ failed. inr (rose_at k c before after Make task (Sink name) name counted (bytes_eq-self name) refl failed))

  -- the fault of a file while the tasks ran
  file_cause : (task : ℕ) (file : File) (fault : Fault) (more : List Fault) →
      IsKnown k c before after ends (task, file) → wrong_fault task ((meaning_of k c).finish task) ≡ [] →
      file_faults c task file ≡ fault ∷ more → CauseOf k c before after ends fault
  file_cause task (Polygon name) fault more known right is = cc
  file_cause task (Source name) fault more known right is =
      cut_case task source_limit (Source name) name ((meaning_of k c).finish task) (c.clean task)
      (nat_lt source_limit (length (c.given task))) fault more known.counted (bytes_eq-self name) refl right known.used
      (λ past. OfSource _ known.entered.0 refl past) refl refl is
  file_cause task Store fault more known right is =
      call_cause task Spill (c.spilled task) fault more is (λ failed. (known.counted.among, inr failed))
  file_cause task (Sink name) fault more known right is =
      call_cause task Write (c.failed Put task) fault more is
      (λ failed. rose_at k c before after Put task (Sink name) name known.counted (bytes_eq-self name) refl failed)

  keep_cause : (u : Use) (fault : Fault) (more : List Fault) → IsKnown k c before after ends u →
      keep_faults c u ≡ fault ∷ more → CauseOf k c before after ends fault
  keep_cause (task, Polygon name) fault more known is = cc
  keep_cause (task, Source name) fault more known is = cc
  keep_cause (task, Store) fault more known is = cc
  keep_cause (task, Sink name) fault more known is =
      call_cause task Keep (c.failed KeepOp task) fault more is
      (λ failed. rose_at k c before after KeepOp task (Sink name) name known.counted (bytes_eq-self name) refl failed)

  -- the first fault of a task's files
  files_cause : (t : ℕ × List File) (fault : Fault) (more : List Fault) →
      AllByRecursion (λ file. IsKnown k c before after ends (t.0, file)) t.1 →
      wrong_fault t.0 ((meaning_of k c).finish t.0) ≡ [] →
      flat_map (file_faults c t.0) t.1 ≡ fault ∷ more → CauseOf k c before after ends fault
  files_cause t fault more known right is =
      elim (first_in (file_faults c t.0) t.1 [] fault
      (ap first_fault (append-nil (flat_map (file_faults c t.0) t.1)) ∙ ap first_fault is)) [
        | inl none ↦ absurd (let no : [] ≡ fault ∷ more = sym none.0 ∙ is in cc)
        | inr first ↦ file_cause t.0 first.at fault first.more
            (all_at (λ file. IsKnown k c before after ends (t.0, file)) (file_faults c t.0) t.1 fault first known) right
            first.is
      ]

  -- the fault of a task, before which none is at fault
  task_case : (t : ℕ × List File) (finish : Finish) (fault : Fault) (more : List Fault) →
      (first : IsFirst (task_faults (meaning_of k c) c) (numbered k.plan) fault) → first.at ≡ t →
      AllByRecursion (λ file. IsKnown k c before after ends (t.0, file)) t.1 → (meaning_of k c).finish t.0 ≡ finish →
      wrong_fault t.0 finish ++ flat_map (file_faults c t.0) t.1 ≡ fault ∷ more → CauseOf k c before after ends fault
  task_case (task, files) (Wrong cause spot) fault more first at known finish is =
      subst (CauseOf k c before after ends) (ap first_fault is)
      (AtTask first.earlier first.later files
      (first.split ∙ ap (λ t. first.earlier ++ t ∷ first.later) at) first.none finish)
  task_case t Whole fault more first at known finish is =
      files_cause t fault more known (ap (wrong_fault t.0) finish) is
  task_case t Passed fault more first at known finish is =
      files_cause t fault more known (ap (wrong_fault t.0) finish) is
  task_case t Cut fault more first at known finish is =
      files_cause t fault more known (ap (wrong_fault t.0) finish) is

  first_task : (fault : Fault) → AllByRecursion (IsKnown k c before after ends) (uses k.plan) →
      IsFirst (task_faults (meaning_of k c) c) (numbered k.plan) fault → CauseOf k c before after ends fault
  first_task fault known first =
      task_case first.at ((meaning_of k c).finish first.at.0) fault first.more first refl
      (all_at (λ t. AllByRecursion (λ file. IsKnown k c before after ends (t.0, file)) t.1)
      (task_faults (meaning_of k c) c) (numbered k.plan) fault first
      (all_tasks (IsKnown k c before after ends) k.plan known)) refl first.is

  -- the files of a run whose tasks ran
  all_known : (status : Status) → IsCourse k.plan c before after → AfterTasks k c before after status →
      ends ≡ entries k.plan c → AllByRecursion (IsKnown k c before after ends) (uses k.plan)
  all_known status course t are = all_both (λ u. IsCounted k before after c u × WasUsed k c u)
      (λ u. AllByRecursion (Contains ends) (entry c u)) (IsKnown k c before after ends)
      (λ u a b. record { counted = a.0; used = a.1; entered = b }) (uses k.plan)
      (all_pairs (IsCounted k before after c) (WasUsed k c) (uses k.plan)
      (all_counted k c before after t.opened course) t.used)
      (all_flat_map (Contains ends) (entry c) (uses k.plan)
      (subst (AllByRecursion (Contains ends)) are (all_among ends)))

  -- the fault of a run whose tasks ran
  tasks_cause : (status : Status) → IsCourse k.plan c before after → AfterTasks k c before after status →
      status.ends ≡ ends → CauseOf k c before after ends status.fault
  tasks_cause status course t are =
      let m : Meaning = meaning_of k c in
      let known : AllByRecursion (IsKnown k c before after ends) (uses k.plan) =
      all_known status course t (sym are ∙ t.ends) in
      elim (first_in (task_faults m c) (numbered k.plan) (flat_map (keep_faults c) (uses k.plan)) status.fault
      (sym t.fault)) [
        | inr first ↦ first_task status.fault known first
        | inl no_task ↦ elim (first_in (keep_faults c) (uses k.plan) [] status.fault
            (ap first_fault (append-nil (flat_map (keep_faults c) (uses k.plan))) ∙ no_task.1)) [
              | inr first ↦ keep_cause first.at status.fault first.more
                  (all_at (IsKnown k c before after ends) (keep_faults c) (uses k.plan) status.fault first known)
                  first.is
              | inl none ↦ subst (CauseOf k c before after ends) none.1 (λ op n. uncounted (any_failed c op n)
                  (before.count op n) (after.count op n) (none_failed k c t.opened
                  (all_quiet k c before after status t
                  (ap (λ fs. fs ++ flat_map (keep_faults c) (uses k.plan)) no_task.0 ∙ none.0)) op n)
                  (course.counts op n))
            ]
      ]

  far_cause : (status : Status) → IsCourse k.plan c before after → HowFar k c before after status →
      status.ends ≡ ends → CauseOf k c before after ends status.fault
  far_cause status course (Ran t) are = tasks_cause status course t are
  far_cause status course (OutOfMemory m) are = subst (CauseOf k c before after ends) (sym m.fault) tt
  far_cause status course (Stopped s) are = opening_cause s.last status.fault s.fault.0
      (last_opened k c before after status (IsCounted k before after c) s (opened_counted k c before after course))
      (last_opened k c before after status (WasOpened c) s s.used) s.fault.1

-- each fault has its cause
pub fault_cause : (k : Command) (before after : Moment) (status : Status) (run : IsRun k before after status) →
    CauseOf k run.course before after status.ends status.fault
fault_cause k before after status run = far_cause k run.course before after status.ends
    (entries_tell k before after status run) status run.is_course run.how_far refl
