-- Where no count rose, a run whose tasks ran has the fault and the files of its meaning over whole files.
use Rattle.std.proofs.Common.{◌≡◌, ℕ, List, [], ◌++◌, take, false, ◌&&◌, ◌||◌, refl, sym, ap, subst, ◌∙◌}
use Rattle.std.specs.Prelude.{flat_map, Some}
use Rattle.std.specs.FinMap as finite
use Rattle.std.specs.List.{AllByRecursion}
use Rattle.osm_entity.specs.Meaning.{Finish, Whole, Passed, Cut, Wrong}
use Rattle.osm_host.specs.Contents.{Files}
use Rattle.osm_host.specs.Moments.{Moment}
use Rattle.osm_host.specs.declared.outside.Op.TheVariants.{Put, Keep}
use Rattle.osm_report.specs.declared.fault.Fault.TheVariants.{Input}
use Rattle.osm_run.specs.Plan.{File, Polygon, Source, Store, Sink, Use, numbered, uses, openings, is_store}
use Rattle.osm_run.specs.Command.{Command}
use Rattle.osm_run.specs.Course.{Course, source_limit, meaning_of, wrong_fault, opening_faults, file_faults, task_faults, keep_faults, run_faults, is_spilled, is_cut_short}
use Rattle.osm_run.specs.OnHost.{GivesFile, IsCourse}
use Rattle.osm_run.specs.HowFar.{WhereTold, WasUsed, IsWritten, FilesAfter, AfterTasks}
use Rattle.osm_run.specs.Outcome.{IsRun}
use Rattle.osm_run.specs.Lawful.{GoesOnAlike, IsSameMeaning, IsLawful}
use Rattle.osm_run.specs.Headline.{RanItsTasks, HoldsBytes, IsWholeFile, IsWholeCourse, IsComplete, NoneRose, IsUnspilled}
use Rattle.osm_run.specs.declared.status.Status.{Status}
use Rattle.osm_run.proofs.EachLemmas.{all_more, all_both, all_pairs, none_any, none_each}
use Rattle.osm_run.proofs.PlanLemmas.{all_uses, all_tasks}
use Rattle.osm_run.proofs.CleanLemmas.{held, told_by}
use Rattle.osm_run.proofs.CountedLemmas.{IsCounted, IsUnfailed, all_counted, calm_unfailed}
use Rattle.osm_run.proofs.HoldLemmas.{ran_tasks}
use Rattle.osm_run.proofs.SameFirstLemmas.{SameFirst, same_first, same_one, same_both, same_all}
use Rattle.osm_run.proofs.WholeLemmas.{IsCalm, IsMatched, calm_matched, same_keep}

-- the faults of a task begin alike
same_wrong : (task : ℕ) (m n : Finish) (xs ys : List _) → n ≡ m → (wrong_fault task m ≡ [] → SameFirst xs ys) →
    SameFirst (wrong_fault task m ++ xs) (wrong_fault task n ++ ys)
same_wrong task m n xs ys is first =
    subst (λ n. SameFirst (wrong_fault task m ++ xs) (wrong_fault task n ++ ys)) (sym is) (one m first) where
      one : (m : Finish) → (wrong_fault task m ≡ [] → SameFirst xs ys) →
          SameFirst (wrong_fault task m ++ xs) (wrong_fault task m ++ ys)
      one Whole first = first refl
      one Passed first = first refl
      one Cut first = first refl
      one (Wrong cause spot) first = same_one (Input task cause spot) xs ys

no_store : (k : Command) (c : Course) (task : ℕ) (u : Use) → IsUnspilled c u →
    (is_store u && (c.spilled u.0 && k.leads u.0 task)) ≡ false
no_store k c task (t, Polygon name) is = refl
no_store k c task (t, Source name) is = refl
no_store k c task (t, Store) is = ap (λ b. b && k.leads t task) is.1
no_store k c task (t, Sink name) is = refl

module _ (k : Command) (c whole : Course) (before after : Moment) (status : Status) (files now : Files)
    (lawful : IsLawful k) (course : IsCourse k.plan c before after) (t : AfterTasks k c before after status)
    (calm : NoneRose before after) (unspilled : AllByRecursion (IsUnspilled c) (uses k.plan))
    (told : before.files ≡ Some files) (w : IsWholeCourse k files whole) where
  -- no call of a file failed
  unfailed : AllByRecursion (IsUnfailed c) (uses k.plan)
  unfailed = all_more (IsCounted k before after c) (IsUnfailed c) (calm_unfailed k c before after calm) (uses k.plan)
      (all_counted k c before after t.opened course)

  gives : AllByRecursion (GivesFile (Some files) c) (uses k.plan)
  gives = all_uses (GivesFile (Some files) c) k.plan (subst (AllByRecursion (GivesFile (Some files) c)) t.opened
      (subst (λ f. AllByRecursion (GivesFile f c) c.opened) told course.gives))

  opening : AllByRecursion (λ u. opening_faults k c u ≡ []) (uses k.plan)
  opening = all_uses (λ u. opening_faults k c u ≡ []) k.plan (none_each (opening_faults k c) (openings k.plan)
      (subst (λ us. flat_map (opening_faults k c) us ≡ []) t.opened t.fine))

  known : AllByRecursion (IsCalm k c whole files) (uses k.plan)
  known =
      let us : List Use = uses k.plan in
      all_both (λ u. (opening_faults k c u ≡ []) × WasUsed k c u)
      (λ u. (GivesFile (Some files) c u × IsUnfailed c u) × (IsUnspilled c u × IsWholeFile files whole u))
      (IsCalm k c whole files)
      (λ u a b. record { opening = a.0; used = a.1; gives = b.0.0; unfailed = b.0.1; unspilled = b.1.0; file = b.1.1 })
      us (all_pairs (λ u. opening_faults k c u ≡ []) (WasUsed k c) us opening t.used)
      (all_pairs (λ u. GivesFile (Some files) c u × IsUnfailed c u)
      (λ u. IsUnspilled c u × IsWholeFile files whole u) us
      (all_pairs (GivesFile (Some files) c) (IsUnfailed c) us gives unfailed)
      (all_pairs (IsUnspilled c) (IsWholeFile files whole) us unspilled w.read))

  matched : AllByRecursion (IsMatched k c whole) (uses k.plan)
  matched =
      all_more (IsCalm k c whole files) (IsMatched k c whole) (calm_matched k c whole files w) (uses k.plan) known

  -- the meaning is that of the whole files
  same : IsSameMeaning k.plan (meaning_of k c) (meaning_of k whole)
  same = lawful.settled (λ task. take source_limit (c.given task)) (λ task. take source_limit (whole.given task))
      c.clean whole.clean (all_more (IsMatched k c whole)
      (GoesOnAlike k (λ task. take source_limit (c.given task)) (λ task. take source_limit (whole.given task)) c.clean
      whole.clean) (λ u is. is.goes_on) (uses k.plan) matched)

  -- the faults of a file, where its task is not wrong
  FilesAlike : ℕ × List File → Type 0
  FilesAlike t = AllByRecursion (λ file. wrong_fault t.0 ((meaning_of k c).finish t.0) ≡ [] →
      SameFirst (file_faults c t.0 file) (file_faults whole t.0 file)) t.1

  files_alike : AllByRecursion FilesAlike (numbered k.plan)
  unfolding FilesAlike
  files_alike = all_tasks (λ u. wrong_fault u.0 ((meaning_of k c).finish u.0) ≡ [] →
      SameFirst (file_faults c u.0 u.1) (file_faults whole u.0 u.1)) k.plan
      (all_more (IsMatched k c whole) (λ u. wrong_fault u.0 ((meaning_of k c).finish u.0) ≡ [] →
      SameFirst (file_faults c u.0 u.1) (file_faults whole u.0 u.1)) (λ u is. is.first) (uses k.plan) matched)

  task_alike : (t : ℕ × List File) → (meaning_of k whole).finish t.0 ≡ (meaning_of k c).finish t.0 → FilesAlike t →
      SameFirst (task_faults (meaning_of k c) c t) (task_faults (meaning_of k whole) whole t)
  unfolding FilesAlike
  task_alike t finish alike =
      same_wrong t.0 ((meaning_of k c).finish t.0) ((meaning_of k whole).finish t.0) (flat_map (file_faults c t.0) t.1)
      (flat_map (file_faults whole t.0) t.1) finish
      (λ right. same_all (file_faults c t.0) (file_faults whole t.0) t.1
      (all_more (λ file. wrong_fault t.0 ((meaning_of k c).finish t.0) ≡ [] →
      SameFirst (file_faults c t.0 file) (file_faults whole t.0 file))
      (λ file. SameFirst (file_faults c t.0 file) (file_faults whole t.0 file)) (λ file is. is right) t.1 alike))

  all_alike : SameFirst (run_faults k c) (run_faults k whole)
  all_alike = same_both (flat_map (task_faults (meaning_of k c) c) (numbered k.plan))
      (flat_map (task_faults (meaning_of k whole) whole) (numbered k.plan)) (flat_map (keep_faults c) (uses k.plan))
      (flat_map (keep_faults whole) (uses k.plan))
      (same_all (task_faults (meaning_of k c) c) (task_faults (meaning_of k whole) whole) (numbered k.plan)
      (all_both (λ t. (meaning_of k whole).finish t.0 ≡ (meaning_of k c).finish t.0) FilesAlike
      (λ t. SameFirst (task_faults (meaning_of k c) c t) (task_faults (meaning_of k whole) whole t)) task_alike
      (numbered k.plan) same.finish files_alike))
      (same_all (keep_faults c) (keep_faults whole) (uses k.plan)
      (all_more (IsUnfailed c) (λ u. SameFirst (keep_faults c u) (keep_faults whole u))
      (λ u is. same_keep c whole u is w.failed) (uses k.plan) unfailed))

  none_spilled : (task : ℕ) → is_spilled k c task ≡ false
  none_spilled task = none_any (λ u. is_store u && (c.spilled u.0 && k.leads u.0 task)) (uses k.plan)
      (all_more (IsUnspilled c) (λ u. (is_store u && (c.spilled u.0 && k.leads u.0 task)) ≡ false) (no_store k c task)
      (uses k.plan) unspilled)

  -- a writer holds its bytes
  whole_held : (u : Use) → IsUnfailed c u × IsWritten k c now u →
      (meaning_of k whole).bytes u.0 ≡ (meaning_of k c).bytes u.0 → HoldsBytes (meaning_of k whole) now u
  whole_held (task, Polygon name) is bytes = tt
  whole_held (task, Source name) is bytes = tt
  whole_held (task, Store) is bytes = tt
  whole_held (task, Sink name) is bytes =
      held ((meaning_of k c).bytes task) (is_cut_short k c task) (c.failed Keep task) (finite.get now name)
      (ap (λ b. b || is_spilled k c task) (is.0.each Put refl) ∙ none_spilled task) (is.0.each Keep refl) is.1
      ∙ ap Some (sym bytes)

  pub complete_tasks : FilesAfter k c files now → IsComplete k whole now status
  complete_tasks written = record {
    fault = t.fault ∙ same_first (run_faults k c) (run_faults k whole) all_alike;
    files = all_both (λ u. IsUnfailed c u × IsWritten k c now u)
        (λ u. (meaning_of k whole).bytes u.0 ≡ (meaning_of k c).bytes u.0) (HoldsBytes (meaning_of k whole) now)
        whole_held (uses k.plan)
        (all_pairs (IsUnfailed c) (IsWritten k c now) (uses k.plan) unfailed written.written) same.bytes;
  }

-- where no count rose, a run whose tasks ran is that over whole files
pub complete_run : (k : Command) (before after : Moment) (status : Status) (run : IsRun k before after status) →
    IsLawful k → RanItsTasks run.how_far → NoneRose before after →
    AllByRecursion (IsUnspilled run.course) (uses k.plan) → WhereTold before.files after.files
    (λ was now. (whole : Course) → IsWholeCourse k was whole → IsComplete k whole now status)
complete_run k before after status run lawful ran calm unspilled =
    let t : AfterTasks k run.course before after status = ran_tasks k run.course before after status run.how_far ran in
    told_by before.files after.files (FilesAfter k run.course)
    (λ was now. (whole : Course) → IsWholeCourse k was whole → IsComplete k whole now status) t.files
    (λ was now told written whole w. complete_tasks k run.course whole before after status was now lawful run.is_course
    t calm unspilled told w written)
