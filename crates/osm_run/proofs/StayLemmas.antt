-- What stays: names that no writer has, and all of it where words were refused or no sink was opened.
use Rattle.std.proofs.Common.{◌≡◌, ℕ, List, [], ◌∷◌, ◌++◌, Bool, true, false, ◌&&◌, ◌||◌, refl, sym, ap, subst, ◌∙◌, arith, inl, inr, append_assoc}
use Rattle.std.specs.Prelude.{Some, ◌⊎◌, nat_lt, if◌then◌else◌, filter}
use Rattle.std.specs.FinMap as finite
use Rattle.std.specs.List.{AllByRecursion, list_any}
use Rattle.osm_host.specs.Contents.{Files}
use Rattle.osm_host.specs.Moments.{Moment}
use Rattle.osm_host.specs.declared.outside.Op.{Op}
use Rattle.osm_host.specs.declared.outside.Op.TheVariants.{Keep}
use Rattle.osm_report.specs.declared.fault.Fault.{Fault}
use Rattle.osm_run.specs.Plan.{Plan, Polygon, Source, Store, Sink, Use, uses, openings, is_polygon, is_source, is_store, is_sink, is_named, is_called, is_sink_named}
use Rattle.osm_run.specs.Command.{Command}
use Rattle.osm_run.specs.Course.{Course, entry, entries, any_failed, run_faults, first_fault}
use Rattle.osm_run.specs.OnHost.{IsCourse}
use Rattle.osm_run.specs.HowFar.{WhereTold, WasOpened, FilesAfter, FilesAtMemory, FilesMade, OthersAtMemory, may_change, IsBeforeSinks, AfterStop, HowFar, Stopped, Ran, OutOfMemory}
use Rattle.osm_run.specs.Outcome.{IsRun}
use Rattle.osm_run.specs.Codes.{code_of}
use Rattle.osm_run.specs.Headline.{OthersStay, SameFiles, TellsReader}
use Rattle.osm_run.specs.declared.status.Status.{Status}
use Rattle.osm_run.proofs.EachLemmas.{all_more, all_both, all_every, all_left, all_right, all_append, any_none, none_any, filter_each, flat_map_all}
use Rattle.osm_run.proofs.PlanLemmas.{all_uses, all_openings}
use Rattle.osm_run.proofs.FirstFaultLemmas.{IsMet, opening_met, faults_met, met_code}
use Rattle.osm_run.proofs.CleanLemmas.{told_more, uncounted}

-- what is no sink is none of any name
pub not_sink : (n : List ℕ) (u : Use) → is_sink u ≡ false → is_sink_named n u ≡ false
not_sink n (task, Polygon name) is = refl
not_sink n (task, Source name) is = refl
not_sink n (task, Store) is = refl
not_sink n (task, Sink name) is = let no : true ≡ false = is in cc

made_or_not : {T : Type 0} (b : Bool) (x y : T) → b ≡ false → (if b then x else y) ≡ y
made_or_not true x y is = absurd (let no : true ≡ false = is in cc)
made_or_not false x y is = refl

-- where no sink has a name, that file stays
pub not_made : (made : List Use) (was now : Files) (n : List ℕ) → FilesMade made was now →
    AllByRecursion (λ u. is_sink_named n u ≡ false) made → finite.get now n ≡ finite.get was n
not_made made was now n files none = files n
    ∙ made_or_not (list_any (is_sink_named n) made) (Some []) (finite.get was n) (none_any (is_sink_named n) made none)

unchanged : (c : Course) (place : ℕ) (n : List ℕ) (u : Use) → is_sink_named n u ≡ false → may_change c place n u ≡ false
unchanged c place n (task, Polygon name) is = refl
unchanged c place n (task, Source name) is = refl
unchanged c place n (task, Store) is = refl
unchanged c place n (task, Sink name) is = ap (λ b. b && (nat_lt task place || c.failed Keep task)) is

-- the same out of memory
not_changed : (c : Course) (place : ℕ) (was now : Files) (n : List ℕ) → OthersAtMemory c place was now →
    AllByRecursion (λ u. is_sink_named n u ≡ false) c.opened → finite.get now n ≡ finite.get was n
not_changed c place was now n files none = files n (none_any (may_change c place n) c.opened
    (all_more (λ u. is_sink_named n u ≡ false) (λ u. may_change c place n u ≡ false) (unchanged c place n) c.opened
    none))

-- what fails a test in the plan fails it among the files that were opened
pub none_opened : (k : Command) (c : Course) (before after : Moment) (test : Use → Bool) →
    IsCourse k.plan c before after →
    list_any test (uses k.plan) ≡ false → AllByRecursion (λ u. test u ≡ false) c.opened
none_opened k c before after test course none =
    all_left (λ u. test u ≡ false) c.opened course.order.0
    (subst (AllByRecursion (λ u. test u ≡ false)) course.order.1
    (all_openings (λ u. test u ≡ false) k.plan (any_none test (uses k.plan) none)))

others_far : (k : Command) (c : Course) (before after : Moment) (status : Status) → IsCourse k.plan c before after →
    HowFar k c before after status → WhereTold before.files after.files (OthersStay k.plan)
others_far k c before after status course (Stopped s) =
    told_more before.files after.files (FilesMade s.earlier) (OthersStay k.plan) s.files
    (λ was now files n none. not_made s.earlier was now n files
    (all_left (λ u. is_sink_named n u ≡ false) s.earlier (s.last ∷ [])
    (subst (AllByRecursion (λ u. is_sink_named n u ≡ false)) s.opened
    (none_opened k c before after (is_sink_named n) course none))))
others_far k c before after status course (Ran t) =
    told_more before.files after.files (FilesAfter k c) (OthersStay k.plan) t.files (λ was now files. files.others)
others_far k c before after status course (OutOfMemory m) =
    told_more before.files after.files (FilesAtMemory k c m.place) (OthersStay k.plan) m.files
    (λ was now files n none. not_changed c m.place was now n files.others
    (none_opened k c before after (is_sink_named n) course none))

-- a name that no writer has stays
pub other_files : (k : Command) (before after : Moment) (status : Status) (run : IsRun k before after status) →
    WhereTold before.files after.files (OthersStay k.plan)
other_files k before after status run = others_far k run.course before after status run.is_course run.how_far

no_name : (c : Course) (op : Op) (n : List ℕ) (u : Use) → is_named n u ≡ false →
    (is_named n u && (is_called op u && c.failed op u.0)) ≡ false
no_name c op n u is = ap (λ b. b && (is_called op u && c.failed op u.0)) is

-- a count of a name that no file has stays
pub other_counts : (k : Command) (before after : Moment) (status : Status) (run : IsRun k before after status) →
    (op : Op) (n : List ℕ) → list_any (is_named n) (uses k.plan) ≡ false → after.count op n ≡ before.count op n
other_counts k before after status run op n none =
    let c : Course = run.course in
    uncounted (any_failed c op n) (before.count op n) (after.count op n)
    (none_any (λ u. is_named n u && (is_called op u && c.failed op u.0)) c.opened
    (all_more (λ u. is_named n u ≡ false) (λ u. (is_named n u && (is_called op u && c.failed op u.0)) ≡ false)
    (no_name c op n) c.opened (none_opened k c before after (is_named n) run.is_course none)))
    (run.is_course.counts op n)

-- a fault with which a run ends is no refusal
refusal_of_first : (faults : List Fault) → AllByRecursion IsMet faults →
    (code_of (first_fault faults) ≡ 2 → ⊥) × (code_of (first_fault faults) ≡ 3 → ⊥)
refusal_of_first [] met = (λ is. omega (arith, is), λ is. omega (arith, is))
refusal_of_first (fault ∷ more) met = met_code fault met.0

pub not_refused : (k : Command) (c : Course) (before after : Moment) (status : Status) →
    HowFar k c before after status → (code_of status.fault ≡ 2 → ⊥) × (code_of status.fault ≡ 3 → ⊥)
not_refused k c before after status (Stopped s) =
    met_code status.fault (subst (AllByRecursion IsMet) s.fault.1 (opening_met k c s.last)).0
not_refused k c before after status (OutOfMemory m) = (
  λ is. let no : 6 ≡ 2 = sym (ap code_of m.fault) ∙ is in omega (arith, no),
  λ is. let no : 6 ≡ 3 = sym (ap code_of m.fault) ∙ is in omega (arith, no),
)
not_refused k c before after status (Ran t) = rw t.fault (refusal_of_first (run_faults k c) (faults_met k c))

-- no run has the status of a refusal
pub no_refusal : (k : Command) (before after : Moment) (status : Status) → (run : IsRun k before after status) →
    (code_of status.fault ≡ 2) ⊎ (code_of status.fault ≡ 3) → ⊥
no_refusal k before after status run (inl two) = (not_refused k run.course before after status run.how_far).0 two
no_refusal k before after status run (inr three) = (not_refused k run.course before after status run.how_far).1 three

-- files of other kinds are no sinks
polygon_no_sink : (u : Use) → is_polygon u ≡ true → is_sink u ≡ false
polygon_no_sink (task, Polygon name) is = refl
polygon_no_sink (task, Source name) is = refl
polygon_no_sink (task, Store) is = refl
polygon_no_sink (task, Sink name) is = let no : false ≡ true = is in cc

source_no_sink : (u : Use) → is_source u ≡ true → is_sink u ≡ false
source_no_sink (task, Polygon name) is = refl
source_no_sink (task, Source name) is = refl
source_no_sink (task, Store) is = refl
source_no_sink (task, Sink name) is = let no : false ≡ true = is in cc

store_no_sink : (u : Use) → is_store u ≡ true → is_sink u ≡ false
store_no_sink (task, Polygon name) is = refl
store_no_sink (task, Source name) is = refl
store_no_sink (task, Store) is = refl
store_no_sink (task, Sink name) is = let no : false ≡ true = is in cc

-- before an element that fails a test stand only such, in a list whose end alone passes it
none_before : {X : Type 0} (test : X → Bool) (xs : List X) (x : X) (more vs ws : List X) → xs ++ x ∷ more ≡ vs ++ ws →
    AllByRecursion (λ y. test y ≡ false) vs → AllByRecursion (λ y. test y ≡ true) ws → test x ≡ false →
    AllByRecursion (λ y. test y ≡ false) xs
none_before test [] x more vs ws is before later here = tt
none_before test (y ∷ xs) x more [] ws is before later here =
    let passes : test x ≡ true = (all_right (λ y. test y ≡ true) (y ∷ xs) (x ∷ more)
    (subst (AllByRecursion (λ y. test y ≡ true)) (sym is) later)).0 in
    absurd (let no : false ≡ true = sym here ∙ passes in cc)
none_before test (y ∷ xs) x more (v ∷ vs) ws is before later here =
    let same : y ≡ v = cc in
    let rest : xs ++ x ∷ more ≡ vs ++ ws = cc in
    (ap test same ∙ before.0, none_before test xs x more vs ws rest before.1 later here)

-- where the last file that was tried is no sink, none is
no_sinks : (plan : Plan) (earlier later : List Use) (last : Use) → openings plan ≡ (earlier ++ last ∷ []) ++ later →
    is_sink last ≡ false → AllByRecursion (λ u. is_sink u ≡ false) (earlier ++ last ∷ [])
no_sinks plan earlier later last order here =
    let us : List Use = uses plan in
    let a : List Use = filter is_polygon us in
    let b : List Use = filter is_source us in
    let c : List Use = filter is_store us in
    let NoSink : Use → Type 0 = λ u. is_sink u ≡ false in
    all_append NoSink earlier (last ∷ [])
    (none_before is_sink earlier last later (a ++ b ++ c) (filter is_sink us)
    (sym (append_assoc earlier (last ∷ []) later) ∙ sym order)
    (all_append NoSink (a ++ b) c
    (all_append NoSink a b (filter_each NoSink is_polygon polygon_no_sink us)
    (filter_each NoSink is_source source_no_sink us))
    (filter_each NoSink is_store store_no_sink us))
    (filter_each (λ u. is_sink u ≡ true) is_sink (λ u is. is) us) here) (here, tt)

-- a file that was opened where no sink was
at_rest_opened : (c : Course) (u : Use) → is_sink u ≡ false → WasOpened c u → IsBeforeSinks c u
at_rest_opened c (task, Polygon name) is opened = tt
at_rest_opened c (task, Source name) is opened = opened
at_rest_opened c (task, Store) is opened = tt
at_rest_opened c (task, Sink name) is opened = let no : true ≡ false = is in cc

stopped_entries : (k : Command) (c : Course) (before after : Moment) (status : Status) →
    IsCourse k.plan c before after → (s : AfterStop k c before after status) → (sink : Bool) → is_sink s.last ≡ sink →
    status.ends ≡ (if sink then entries k.plan c else []) →
    (status.ends ≡ entries k.plan c) ⊎ ((status.ends ≡ []) × AllByRecursion (IsBeforeSinks c) c.opened)
stopped_entries k c before after status course s true last ends = inl ends
stopped_entries k c before after status course s false last ends = inr (
  ends,
  all_both (λ u. is_sink u ≡ false) (WasOpened c) (IsBeforeSinks c) (at_rest_opened c) c.opened
      (subst (AllByRecursion (λ u. is_sink u ≡ false)) (sym s.opened)
      (no_sinks k.plan s.earlier course.order.0 s.last
      (course.order.1 ∙ ap (λ opened. opened ++ course.order.0) s.opened) last)) s.used,
)

entries_far : (k : Command) (c : Course) (before after : Moment) (status : Status) → IsCourse k.plan c before after →
    HowFar k c before after status →
    (status.ends ≡ entries k.plan c) ⊎ ((status.ends ≡ []) × AllByRecursion (IsBeforeSinks c) c.opened)
entries_far k c before after status course (Stopped s) =
    stopped_entries k c before after status course s (is_sink s.last) refl s.ends
entries_far k c before after status course (Ran t) = inl t.ends
entries_far k c before after status course (OutOfMemory m) = m.ends

-- there is an entry for each reader, or no sink was opened and nothing came from a source
pub entries_or_none : (k : Command) (before after : Moment) (status : Status) (run : IsRun k before after status) →
    (status.ends ≡ entries k.plan run.course)
    ⊎ ((status.ends ≡ []) × AllByRecursion (IsBeforeSinks run.course) run.course.opened)
entries_or_none k before after status run =
    entries_far k run.course before after status run.is_course run.how_far

-- before a sink was opened, no sink has any name
before_sinks : (c : Course) (n : List ℕ) (u : Use) → IsBeforeSinks c u → is_sink_named n u ≡ false
before_sinks c n (task, Polygon name) is = refl
before_sinks c n (task, Source name) is = refl
before_sinks c n (task, Store) is = refl
before_sinks c n (task, Sink name) is = absurd is

-- where no sink was opened, no file changed
same_far : (k : Command) (c : Course) (before after : Moment) (status : Status) →
    ((n : List ℕ) → AllByRecursion (λ u. is_sink_named n u ≡ false) c.opened) → HowFar k c before after status →
    WhereTold before.files after.files SameFiles
same_far k c before after status unnamed (Stopped s) =
    told_more before.files after.files (FilesMade s.earlier) SameFiles s.files
    (λ was now files n. not_made s.earlier was now n files
    (all_left (λ u. is_sink_named n u ≡ false) s.earlier (s.last ∷ [])
    (subst (AllByRecursion (λ u. is_sink_named n u ≡ false)) s.opened (unnamed n))))
same_far k c before after status unnamed (Ran t) =
    told_more before.files after.files (FilesAfter k c) SameFiles t.files
    (λ was now files n. files.others n (none_any (is_sink_named n) (uses k.plan)
    (all_uses (λ u. is_sink_named n u ≡ false) k.plan
    (subst (AllByRecursion (λ u. is_sink_named n u ≡ false)) t.opened (unnamed n)))))
same_far k c before after status unnamed (OutOfMemory m) =
    told_more before.files after.files (FilesAtMemory k c m.place) SameFiles m.files
    (λ was now files n. not_changed c m.place was now n files.others (unnamed n))

pub entries_or_same : (k : Command) (before after : Moment) (status : Status) (run : IsRun k before after status) →
    (status.ends ≡ entries k.plan run.course) ⊎ WhereTold before.files after.files SameFiles
entries_or_same k before after status run = elim (entries_or_none k before after status run) [
  | inl ends ↦ inl ends
  | inr none ↦ inr (same_far k run.course before after status
      (λ n. all_more (IsBeforeSinks run.course) (λ u. is_sink_named n u ≡ false) (before_sinks run.course n)
      run.course.opened none.1) run.how_far)
]

entry_tells : (c : Course) (u : Use) → AllByRecursion (TellsReader c) (entry c u)
entry_tells c (task, Polygon name) = tt
entry_tells c (task, Source name) = (record { given = refl; clean = refl }, tt)
entry_tells c (task, Store) = tt
entry_tells c (task, Sink name) = tt

-- each entry tells its reader
pub entries_tell : (k : Command) (before after : Moment) (status : Status) (run : IsRun k before after status) →
    AllByRecursion (TellsReader run.course) status.ends
entries_tell k before after status run = elim (entries_or_none k before after status run) [
  | inl ends ↦ subst (AllByRecursion (TellsReader run.course)) (sym ends)
      (flat_map_all (TellsReader run.course) (entry run.course) (uses k.plan)
      (all_every (λ u. AllByRecursion (TellsReader run.course) (entry run.course u)) (entry_tells run.course)
      (uses k.plan)))
  | inr none ↦ subst (AllByRecursion (TellsReader run.course)) (sym none.0) tt
]
