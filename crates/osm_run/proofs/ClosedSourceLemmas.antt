-- How the sources of a plan are closed, one after the other.
use Rattle.std.proofs.Common.{◌≡◌, ℕ, ◌+◌, ◌<◌, ◌≤◌, List, [], ◌∷◌, ◌++◌, length, take, get_or, set, refl, sym, ap, subst, ◌∙◌, arith, inl, inr}
use Rattle.std.specs.Prelude.{Option, Some, None, sum_by}
use Rattle.std.proofs.lemmas.Bool.{cases_eq}
use Rattle.std.proofs.lemmas.List.{get_or-set_other, get_or-set_same}
use Rattle.osm_host.specs.Contents.{Files}
use Rattle.osm_host.specs.Counts.{raised}
use Rattle.osm_host.specs.Moments.{Moment}
use Rattle.osm_machine.specs.Devices.{SourceSeen}
use Rattle.osm_run.specs.Plan.{Plan, Source}
use Rattle.osm_run.specs.HowFar.{WhereTold}
use Rattle.osm_run.specs.Went.{DeviceSeen, NoDevice, SeenSink, SeenSource, device_at}
use Rattle.osm_run.specs.Opened.{opened_to, source_name}
use Rattle.osm_run.specs.Closed.{CanClose, CanCloseAll, FilesKeptTo, IsClosedSource, KeepAnswer, SourceWasClosed, WasKept, WereClosed, failed_by_devices, gave_under, without_source}
use Rattle.osm_run.proofs.CallLemmas.{raised-none}
use Rattle.osm_run.proofs.UsesLemmas.{opened_to-skip_source, opened_to-source, source_files}
use Rattle.osm_run.proofs.ClosableLemmas.{can_close_source, closable_plain, no_source_gives, not_a_source}
use Rattle.osm_run.proofs.ClosedCountLemmas.{counts_more, counts_of_none, counts_same, gave_more, source_counts, source_gave}

-- the source of one task more was closed
pub source_closed : (plan : Plan) (t : ℕ) (before middle now : Moment) (devices : List DeviceSeen)
    (answers : ℕ → KeepAnswer) (name : List ℕ) (source : SourceSeen) → t < length plan → t < length devices →
    get_or plan t [] ≡ Source name ∷ [] → device_at devices t ≡ SeenSource source → source.name ≡ name →
    WereClosed plan t 0 before middle devices answers → SourceWasClosed name source middle now →
    WereClosed plan (t + 1) 0 before now devices answers
source_closed plan t before middle now devices answers name source within inside file device named were closed =
    let grows : opened_to plan (t + 1) 0 ≡ opened_to plan t 0 ++ (t, Source name) ∷ [] =
    opened_to-source plan t name within file in
    record {
      counts = λ o n. counts_more (opened_to plan t 0) (opened_to plan (t + 1) 0) (t, Source name)
          (failed_by_devices devices answers) o n (before.count o n) (middle.count o n) (now.count o n) grows
          (were.counts o n) (source_counts devices answers t name source middle now device closed o n);
      gave = λ n. source_gave n name source (before.gave n) (middle.gave n) (now.gave n)
          (sum_by (gave_under n) (take t devices)) named (were.gave n) (closed.gave n)
          ∙ ap (raised (before.gave n)) (sym (gave_more n devices t (SeenSource source) inside device));
      known = closed.known ∙ were.known;
      files = subst (λ o. WhereTold before.files o (FilesKeptTo plan 0 devices answers)) (sym closed.files) were.files;
    }

-- the source of the next task was not opened
source_unopened : (plan : Plan) (t : ℕ) (before now : Moment) (devices : List DeviceSeen)
    (answers : ℕ → KeepAnswer) (name : List ℕ) → t < length plan → t < length devices →
    get_or plan t [] ≡ Source name ∷ [] → device_at devices t ≡ NoDevice → answers t ≡ WasKept →
    WereClosed plan t 0 before now devices answers → WereClosed plan (t + 1) 0 before now devices answers
source_unopened plan t before now devices answers name within inside file device is were =
    let grows : opened_to plan (t + 1) 0 ≡ opened_to plan t 0 ++ (t, Source name) ∷ [] =
    opened_to-source plan t name within file in
    record {
      counts = λ o n. counts_more (opened_to plan t 0) (opened_to plan (t + 1) 0) (t, Source name)
          (failed_by_devices devices answers) o n (before.count o n) (now.count o n) (now.count o n) grows
          (were.counts o n) (counts_of_none devices answers (t, Source name) device is o n (now.count o n));
      gave = λ n. were.gave n ∙ ap (raised (before.gave n))
          (sym (gave_more n devices t NoDevice inside device
          ∙ (let e : sum_by (gave_under n) (take t devices) + 0 ≡ sum_by (gave_under n) (take t devices) = omega arith
          in e)));
      known = were.known;
      files = were.files;
    }

-- the next task has no source
pub source_left : (plan : Plan) (t : ℕ) (known : List (List ℕ)) (before now : Moment) (devices : List DeviceSeen)
    (answers : ℕ → KeepAnswer) → t < length plan → t < length devices → source_name (get_or plan t []) ≡ None →
    CanClose known (get_or plan t []) (device_at devices t) → WereClosed plan t 0 before now devices answers →
    WereClosed plan (t + 1) 0 before now devices answers
source_left plan t known before now devices answers within inside none can were =
    let same : opened_to plan (t + 1) 0 ≡ opened_to plan t 0 = opened_to-skip_source plan t within
    (closable_plain known (get_or plan t []) (device_at devices t) can) none in
    record {
      counts = λ o n. counts_same (opened_to plan t 0) (opened_to plan (t + 1) 0) (failed_by_devices devices answers)
          o n (before.count o n) (now.count o n) same (were.counts o n);
      gave = λ n. were.gave n ∙ ap (raised (before.gave n))
          (sym (gave_more n devices t (device_at devices t) inside refl
          ∙ ap (λ k. sum_by (gave_under n) (take t devices) + k)
          (no_source_gives known n (get_or plan t []) (device_at devices t) can none)
          ∙ (let e : sum_by (gave_under n) (take t devices) + 0 ≡ sum_by (gave_under n) (take t devices) = omega arith
          in e)));
      known = were.known;
      files = were.files;
    }

-- no device was closed yet
pub none_closed : (plan : Plan) (moment : Moment) (devices : List DeviceSeen) (answers : ℕ → KeepAnswer) →
    WereClosed plan 0 0 moment moment devices answers
none_closed plan moment devices answers = record {
  counts = λ o n. refl;
  gave = λ n. sym (raised-none (moment.gave n));
  known = refl;
  files = kept_none moment.files;
} where
  kept_none : (files : Option Files) → WhereTold files files (FilesKeptTo plan 0 devices answers)
  kept_none None = tt
  kept_none (Some m) = (
    m,
    refl,
    record {
      own = λ t name sink less within file device. absurd (omega (arith, less));
      others = λ n none. refl;
    },
  )

-- the sources of some tasks were taken out of their places and closed
pub record SourcesSoFar (plan : Plan) (at : ℕ) (start now : Moment) (old new : List DeviceSeen) : Type 0 where
  pub before : (t : ℕ) → t < at → device_at new t ≡ without_source (device_at old t)
  pub later : (t : ℕ) → at ≤ t → device_at new t ≡ device_at old t
  pub closed : WereClosed plan at 0 start now old (λ t. WasKept)

-- the sources of no task were closed
pub sources_before : (plan : Plan) (moment : Moment) (devices : List DeviceSeen) →
    SourcesSoFar plan 0 moment moment devices devices
sources_before plan moment devices = record {
  before = λ t less. absurd (omega (arith, less));
  later = λ t past. refl;
  closed = none_closed plan moment devices (λ t. WasKept);
}

source_turn_by : (plan : Plan) (t : ℕ) (known : List (List ℕ)) (start middle now : Moment) (old new : List DeviceSeen)
    (name : List ℕ) (d : DeviceSeen) → t < length plan → t < length old → t < length new →
    get_or plan t [] ≡ Source name ∷ [] → device_at old t ≡ d → CanClose known (Source name ∷ []) d →
    SourcesSoFar plan t start middle old new → IsClosedSource name d middle now →
    SourcesSoFar plan (t + 1) start now old (set new t NoDevice)
source_turn_by plan t known start middle now old new name NoDevice within inside there file device can so_far
    closed = record {
      before = λ x less. elim (cases_eq x t) [
        | inl same ↦ subst (λ y. device_at (set new t NoDevice) y ≡ without_source (device_at old y)) (sym same)
            (get_or-set_same new t NoDevice NoDevice there ∙ sym (ap without_source device))
        | inr differs ↦ get_or-set_other new t x NoDevice NoDevice differs
            ∙ so_far.before x (omega (arith, less, differs))
      ];
      later = λ x past. get_or-set_other new t x NoDevice NoDevice (λ same. omega (arith, past, same))
          ∙ so_far.later x (omega (arith, past));
      closed = subst (λ moment. WereClosed plan (t + 1) 0 start moment old (λ x. WasKept)) (sym closed)
          (source_unopened plan t start middle old (λ x. WasKept) name within inside file device refl so_far.closed);
    }
source_turn_by plan t known start middle now old new name (SeenSink sink) within inside there file device can so_far
    closed =
    absurd can
source_turn_by plan t known start middle now old new name (SeenSource source) within inside there file device can so_far
    closed = record {
      before = λ x less. elim (cases_eq x t) [
        | inl same ↦ subst (λ y. device_at (set new t NoDevice) y ≡ without_source (device_at old y)) (sym same)
            (get_or-set_same new t NoDevice NoDevice there ∙ sym (ap without_source device))
        | inr differs ↦ get_or-set_other new t x NoDevice NoDevice differs
            ∙ so_far.before x (omega (arith, less, differs))
      ];
      later = λ x past. get_or-set_other new t x NoDevice NoDevice (λ same. omega (arith, past, same))
          ∙ so_far.later x (omega (arith, past));
      closed = source_closed plan t start middle now old (λ x. WasKept) name source within inside file device can.0
          so_far.closed closed;
    }

-- the source of one task more was closed
pub source_turn : (plan : Plan) (t : ℕ) (known : List (List ℕ)) (start middle now : Moment)
    (old new : List DeviceSeen) (name : List ℕ) (d : DeviceSeen) → t < length plan → length new ≡ length old →
    CanCloseAll plan known old → source_name (get_or plan t []) ≡ Some name → device_at new t ≡ d →
    SourcesSoFar plan t start middle old new → IsClosedSource name d middle now →
    SourcesSoFar plan (t + 1) start now old (set new t NoDevice)
source_turn plan t known start middle now old new name d within count can named device so_far closed =
    let same : device_at new t ≡ device_at old t = so_far.later t (omega arith) in
    source_turn_by plan t known start middle now old new name d within (omega (arith, within, can.count))
    (omega (arith, within, can.count, count)) (source_files (get_or plan t []) name named) (sym same ∙ device)
    (can_close_source plan t known known old new name d within can refl same device named) so_far closed

-- the next task has no source
pub no_source_turn : (plan : Plan) (t : ℕ) (known : List (List ℕ)) (start now : Moment) (old new : List DeviceSeen) →
    t < length plan → CanCloseAll plan known old → source_name (get_or plan t []) ≡ None →
    SourcesSoFar plan t start now old new → SourcesSoFar plan (t + 1) start now old new
no_source_turn plan t known start now old new within can none so_far = record {
  before = λ x less. elim (cases_eq x t) [
    | inl same ↦ subst (λ y. device_at new y ≡ without_source (device_at old y)) (sym same)
        (so_far.later t (omega arith)
        ∙ sym (not_a_source known (get_or plan t []) (device_at old t) (can.each t within) none))
    | inr differs ↦ so_far.before x (omega (arith, less, differs))
  ];
  later = λ x past. so_far.later x (omega (arith, past));
  closed = source_left plan t known start now old (λ x. WasKept) within (omega (arith, within, can.count)) none
      (can.each t within) so_far.closed;
}
