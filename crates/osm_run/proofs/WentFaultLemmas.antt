-- The faults of a task by what its machine says, and how its source was read.
use Rattle.std.proofs.Common.{◌≡◌, ◌≢◌, ℕ, List, [], ◌∷◌, ◌++◌, length, Bool, true, false, refl, sym, subst, ◌∙◌}
use Rattle.std.specs.Prelude.{nat_lt, if◌then◌else◌}
use Rattle.osm_entity.specs.Meaning.{Finish, Meaning, Whole, Passed, Cut, Wrong, finish_after, finish_read}
use Rattle.osm_entity.specs.Readings.{Ending, Whole as ReadWhole, Cut as ReadCut, Bad}
use Rattle.osm_entity.specs.Tasks.{verdict_as}
use Rattle.osm_entity.specs.declared.stream.End.{End}
use Rattle.osm_entity.specs.declared.stream.End.TheVariants.{Done, Broken}
use Rattle.osm_entity.specs.declared.verdict.Verdict.{Verdict}
use Rattle.osm_entity.specs.declared.verdict.Verdict.TheVariants.{Clean as CleanVerdict, Passed as PassedVerdict, Input as InputVerdict, TooLong as LongVerdict, Read as ReadVerdict, Write as WriteVerdict}
use Rattle.osm_host.specs.Feeds.{FitsFeed, reached_end}
use Rattle.osm_host.specs.declared.feed.Feed.{Feed}
use Rattle.osm_host.specs.declared.feed.Feed.TheVariants.{Open, Ended, Failed, TooLong as PastLimit}
use Rattle.osm_host.specs.declared.outside.Op.TheVariants.{Pull, Put}
use Rattle.osm_machine.specs.MachineDevices.{is_failed}
use Rattle.osm_report.specs.declared.fault.Fault.{Fault}
use Rattle.osm_report.specs.declared.fault.Fault.TheVariants.{Input, TooLong, Device}
use Rattle.osm_report.specs.declared.fault.DeviceCall.TheVariants.{Read as ReadCall, Write as WriteCall}
use Rattle.osm_run.specs.Course.{Course, call_fault, source_limit, task_faults, wrong_fault}
use Rattle.osm_run.specs.HowFar.{HowRead, ReachedEnd, PassedLimit, PullFailed, WasWrong}
use Rattle.osm_run.specs.Plan.{File, Sink, Source}
use Rattle.osm_run.specs.Went.{verdict_faults}
use Rattle.osm_run.proofs.SameFirstLemmas.{SameFirst, same_none, same_one}

-- ---- how a source was read

pub how_read : (c : Course) (t limit : ℕ) (feed : Feed) (ending : Ending) (finish : Finish) →
    finish ≡ finish_read ending → FitsFeed feed limit (length (c.given t)) → c.clean t ≡ reached_end feed →
    c.failed Pull t ≡ is_failed feed → (c.clean t ≡ false → ending ≡ ReadWhole → ⊥) → (ending ≡ ReadCut → feed ≢ Open) →
    HowRead c t limit finish
how_read c t limit Ended ending finish is fits clean failed unwhole stopped = ReachedEnd clean failed fits
how_read c t limit Failed ending finish is fits clean failed unwhole stopped = PullFailed clean failed fits
how_read c t limit PastLimit ending finish is fits clean failed unwhole stopped = PassedLimit clean failed fits
how_read c t limit Open ReadWhole finish is fits clean failed unwhole stopped = absurd (unwhole clean refl)
how_read c t limit Open ReadCut finish is fits clean failed unwhole stopped = absurd (stopped refl refl)
how_read c t limit Open (Bad cause spot) finish is fits clean failed unwhole stopped = WasWrong cause spot clean is

-- ---- the faults of a task

-- the verdict of an ending, by whether more came than the limit
judged : Bool → Finish → Verdict
judged long Whole = CleanVerdict
judged long Passed = PassedVerdict
judged long Cut = if long then LongVerdict else ReadVerdict
judged long (Wrong cause spot) = InputVerdict cause spot

as_judged : (limit count : ℕ) (finish : Finish) → verdict_as limit count finish ≡ judged (nat_lt limit count) finish
unfolding judged
as_judged limit count Whole = refl
as_judged limit count Passed = refl
as_judged limit count Cut = refl
as_judged limit count (Wrong cause spot) = refl

-- the faults of a reader, by how it ends, whether the end of its source came, and whether more came than the limit
reader_by : ℕ → Finish → (clean long : Bool) → List Fault
reader_by t finish clean long = wrong_fault t finish
    ++ ((if clean then [] else (if long then TooLong t else Device t ReadCall) ∷ []) ++ [])

reader_first : (t : ℕ) (ending : Ending) (clean long : Bool) → (clean ≡ false → ending ≡ ReadWhole → ⊥) →
    (clean ≡ true → ending ≡ ReadCut → ⊥) →
    SameFirst (reader_by t (finish_read ending) clean long) (verdict_faults (t, judged long (finish_read ending)))
unfolding reader_by judged
reader_first t ReadWhole true long unwhole uncut = same_none
reader_first t ReadWhole false long unwhole uncut = absurd (unwhole refl refl)
reader_first t ReadCut true long unwhole uncut = absurd (uncut refl refl)
reader_first t ReadCut false true unwhole uncut = same_one (TooLong t) [] []
reader_first t ReadCut false false unwhole uncut = same_one (Device t ReadCall) [] []
reader_first t (Bad cause spot) clean long unwhole uncut = same_one (Input t cause spot) _ []

-- the faults of a reader begin as its verdict says
pub reader_faults : (c : Course) (m : Meaning) (t : ℕ) (name : List ℕ) (ending : Ending) (verdict : Verdict) →
    m.finish t ≡ finish_read ending →
    verdict ≡ verdict_as source_limit (length (c.given t)) (finish_read ending) →
    (c.clean t ≡ false → ending ≡ ReadWhole → ⊥) → (c.clean t ≡ true → ending ≡ ReadCut → ⊥) →
    SameFirst (task_faults m c (t, Source name ∷ [])) (verdict_faults (t, verdict))
unfolding reader_by
reader_faults c m t name ending verdict finish is unwhole uncut =
    let long : Bool = nat_lt source_limit (length (c.given t)) in
    subst (λ v. SameFirst (task_faults m c (t, Source name ∷ [])) (verdict_faults (t, v)))
    (sym (is ∙ as_judged source_limit (length (c.given t)) (finish_read ending)))
    (subst (λ f. SameFirst (reader_by t f (c.clean t) long) (verdict_faults (t, judged long (finish_read ending))))
    (sym finish) (reader_first t ending (c.clean t) long unwhole uncut))

-- the faults of a writer, by how it ends and whether a put failed
writer_by : ℕ → Finish → Bool → List Fault
writer_by t finish refused = wrong_fault t finish ++ (call_fault t WriteCall refused ++ [])

-- the verdict of a writer
written_as : (limit count : ℕ) → End → Bool → Verdict
written_as limit count end refused = if refused then WriteVerdict else verdict_as limit count (finish_after end)

writer_first : (t limit count : ℕ) (end : End) (refused : Bool) →
    SameFirst (writer_by t (finish_after end) refused) (verdict_faults (t, written_as limit count end refused))
unfolding writer_by written_as
writer_first t limit count Done true = same_one (Device t WriteCall) [] []
writer_first t limit count Done false = same_none
writer_first t limit count Broken true = same_one (Device t WriteCall) [] []
writer_first t limit count Broken false = same_none

written_is : (limit count : ℕ) (end : End) (refused : Bool) (verdict : Verdict) →
    (refused ≡ true → verdict ≡ WriteVerdict) →
    (refused ≡ false → verdict ≡ verdict_as limit count (finish_after end)) →
    verdict ≡ written_as limit count end refused
unfolding written_as
written_is limit count end true verdict blames judges = blames refl
written_is limit count end false verdict blames judges = judges refl

-- the faults of a writer begin as its verdict says
pub writer_faults : (c : Course) (m : Meaning) (t limit count : ℕ) (name : List ℕ) (end : End) (verdict : Verdict) →
    m.finish t ≡ finish_after end → (c.failed Put t ≡ true → verdict ≡ WriteVerdict) →
    (c.failed Put t ≡ false → verdict ≡ verdict_as limit count (finish_after end)) →
    SameFirst (task_faults m c (t, Sink name ∷ [])) (verdict_faults (t, verdict))
unfolding writer_by
writer_faults c m t limit count name end verdict finish blames judges =
    subst (λ v. SameFirst (task_faults m c (t, Sink name ∷ [])) (verdict_faults (t, v)))
    (sym (written_is limit count end (c.failed Put t) verdict blames judges))
    (subst
    (λ f. SameFirst (writer_by t f (c.failed Put t)) (verdict_faults (t, written_as limit count end (c.failed Put t))))
    (sym finish) (writer_first t limit count end (c.failed Put t)))

-- an ending that isn't cut off is judged as it is
idle_first : (t limit count : ℕ) (finish : Finish) → finish ≢ Cut →
    SameFirst (wrong_fault t finish ++ []) (verdict_faults (t, verdict_as limit count finish))
idle_first t limit count Whole uncut = same_none
idle_first t limit count Passed uncut = same_none
idle_first t limit count Cut uncut = absurd (uncut refl)
idle_first t limit count (Wrong cause spot) uncut = same_one (Input t cause spot) [] []

-- the faults of a task without a file begin as its verdict says
pub idle_faults : (c : Course) (m : Meaning) (t limit count : ℕ) (files : List File) (finish : Finish)
    (verdict : Verdict) → files ≡ [] → m.finish t ≡ finish → finish ≢ Cut →
    verdict ≡ verdict_as limit count finish → SameFirst (task_faults m c (t, files)) (verdict_faults (t, verdict))
idle_faults c m t limit count files finish verdict none is uncut judges =
    subst (λ fs. SameFirst (task_faults m c (t, fs)) (verdict_faults (t, verdict))) (sym none)
    (subst (λ v. SameFirst (wrong_fault t (m.finish t) ++ []) (verdict_faults (t, v))) (sym judges)
    (subst (λ f. SameFirst (wrong_fault t f ++ []) (verdict_faults (t, verdict_as limit count finish))) (sym is)
    (idle_first t limit count finish uncut)))
