-- What closed devices tell of a course: it is the course of the run that the host shows.
use Rattle.std.proofs.Common.{◌≡◌, ℕ, ◌+◌, ◌<◌, List, [], ◌∷◌, ◌++◌, length, take, get_or, Bool, true, false, cond, ◌&&◌, ◌||◌, refl, sym, ap, subst, ◌∙◌, arith}
use Rattle.std.specs.Prelude.{IsSome, Some, filter, flat_map, sum_by}
use Rattle.std.specs.FinMap as finite
use Rattle.std.specs.List.{AllByRecursion, list_any}
use Rattle.std.specs.Str.{bytes_eq}
use Rattle.std.proofs.Math.Seq.{take-length}
use Rattle.std.proofs.lemmas.List.{append-nil}
use Rattle.std.proofs.lemmas.List.Folds.{list_any-append}
use Rattle.std.proofs.lemmas.List.Sums.{sum_by-cons}
use Rattle.osm_entity.specs.Meaning.{Meaning}
use Rattle.osm_host.specs.Contents.{Files, IsEmptyWhereTold}
use Rattle.osm_host.specs.Counts.{raised}
use Rattle.osm_host.specs.Moments.{Moment}
use Rattle.osm_host.specs.declared.outside.Op.{Op}
use Rattle.osm_host.specs.declared.outside.Op.TheVariants.{Put}
use Rattle.osm_machine.specs.Devices.{SourceSeen}
use Rattle.osm_machine.specs.Sinks.{SinkSeen}
use Rattle.osm_run.specs.Plan.{Plan, Sink, Source, Use, is_sink, is_sink_named, is_source, names_of, openings, uses, uses_of}
use Rattle.osm_run.specs.Course.{Course, any_failed, first_fault, given_under, keep_faults}
use Rattle.osm_run.specs.OnHost.{CountsBy, GivesFile, IsCourse, SameNames}
use Rattle.osm_run.specs.HowFar.{FilesMade, WhereTold}
use Rattle.osm_run.specs.Went.{DeviceSeen, SeenSink, SeenSource, SinkTells, SourceTells, device_at, failed_with, with_keeps}
use Rattle.osm_run.specs.Opened.{AreOpened, IsNewSink, IsNewSource, ReadsOrWrites, opened_to}
use Rattle.osm_run.specs.Closed.{AreClosed, DevicesTell, FilesKept, FilesKeptTo, IsKeptFile, KeepAnswer, SinksWereKept, WasKept, WereClosed, course_by, did_fail, failed_by_devices, gave_under, without_source}
use Rattle.osm_run.specs.declared.closing.Kept.{Kept}
use Rattle.osm_run.proofs.CallLemmas.{counts_then, raised-none}
use Rattle.osm_run.proofs.ClosedCountLemmas.{any_before}
use Rattle.osm_run.proofs.EachLemmas.{all_more, any_none, filter_each, none_any}
use Rattle.osm_run.proofs.PlanLemmas.{all_openings}
use Rattle.osm_run.proofs.BeforeLemmas.{filter_some}
use Rattle.osm_run.proofs.NothingGivenLemmas.{flat_map_same}
use Rattle.osm_run.proofs.UsesLemmas.{below_uses, each_use, opened_to-all, plain_at, uses-take_all}
use Rattle.osm_run.proofs.ToldCallLemmas.{call_test, gives_kept, keep_faults_same, keeps_by, lost_memory, sink_calls, sink_gives, sink_is_opened, sink_test, sink_without, source_calls, source_test, told_three, whole_file}
use Rattle.osm_run.proofs.ToldFileLemmas.{by_told, given_alike, gives_told, raised_alike, sum_opened, written_file}

module _ (plan : Plan) (c : Course) (m : Meaning) (memory : Bool) (before now middle after : Moment)
    (opened devices rest : List DeviceSeen) (kept : Kept) (plain : AllByRecursion ReadsOrWrites plan)
    (are : AreOpened plan before now opened) (tell : DevicesTell plan c m memory opened devices)
    (left : (t : ℕ) → t < length plan → device_at rest t ≡ without_source (device_at devices t))
    (sources : WereClosed plan (length plan) 0 now middle devices (λ t. WasKept))
    (sinks : SinksWereKept plan (length plan) middle after rest kept) where
  abbrev answers : ℕ → KeepAnswer
  answers = sinks.answers

  -- what holds of each file by what its task's devices tell
  each_told : (P : Use → Type 0) → ((t : ℕ) (name : List ℕ) (a b : SourceSeen) → t < length plan →
      device_at devices t ≡ SeenSource b → IsNewSource before.files name a → SourceTells c t a b → P (t, Source name)) →
      ((t : ℕ) (name : List ℕ) (a b : SinkSeen) → t < length plan → get_or plan t [] ≡ Sink name ∷ [] →
      device_at devices t ≡ SeenSink b → IsNewSink before.files name a → SinkTells c m memory t a b →
      P (t, Sink name)) →
      AllByRecursion P (uses plan)
  each_told P source sink = each_use P plan (λ t within.
      by_told c m memory before.files t
      (λ fs a b. get_or plan t [] ≡ fs → device_at devices t ≡ b → AllByRecursion P (uses_of (t, fs)))
      (λ file device. tt)
      (λ name a b new tells file device. (source t name a b within device new tells, tt))
      (λ name a b new tells file device. (sink t name a b within file device new tells, tt))
      (get_or plan t []) (device_at opened t) (device_at devices t) (plain_at plan t plain within) (are.each t within)
      (tell.told t within) refl refl)

  calls_told : (o : Op) (n : List ℕ) → AllByRecursion (λ u. call_test (failed_by_devices devices answers) o n u
      ≡ call_test (failed_with (keeps_by answers) c.failed) o n u) (uses plan)
  calls_told o n = each_told (λ u. call_test (failed_by_devices devices answers) o n u
      ≡ call_test (failed_with (keeps_by answers) c.failed) o n u)
      (λ t name a b within device new tells. ap (λ x. bytes_eq n name && x)
      (source_calls c devices answers t name a b (tell.opens t) new.faults tells device o))
      (λ t name a b within file device new tells. ap (λ x. bytes_eq n name && x)
      (sink_calls c m memory devices answers t name a b (tell.makes t) new.faults tells device o))

  -- the calls of both turns are those of the course
  any_closed : (o : Op) (n : List ℕ) →
      (any_failed (course_by (opened_to plan (length plan) 0) (failed_by_devices devices (λ t. WasKept))) o n
      || any_failed (course_by (opened_to plan 0 (length plan)) (failed_by_devices rest answers)) o n)
      ≡ list_any (call_test (failed_with (keeps_by answers) c.failed) o n) (openings plan)
  any_closed o n =
      let first : List Use = filter is_source (uses (take (length plan) plan)) in
      let second : List Use = filter is_sink (uses (take (length plan) plan)) in
      let test : Use → Bool = call_test (failed_by_devices devices answers) o n in
      ap (λ us. list_any (call_test (failed_by_devices devices (λ t. WasKept)) o n) us
      || list_any (call_test (failed_by_devices rest answers) o n) second) (append-nil first)
      ∙ ap (λ b. b || list_any (call_test (failed_by_devices rest answers) o n) second)
      (any_before (call_test (failed_by_devices devices (λ t. WasKept)) o n) test first
      (filter_each (λ u. call_test (failed_by_devices devices (λ t. WasKept)) o n u ≡ test u) is_source
      (source_test devices (λ t. WasKept) answers o n) (uses (take (length plan) plan))))
      ∙ ap (λ b. list_any test first || b)
      (any_before (call_test (failed_by_devices rest answers) o n) test second
      (filter_some (λ u. call_test (failed_by_devices rest answers) o n u ≡ test u) is_sink
      (uses (take (length plan) plan))
      (all_more (λ u. u.0 < length plan)
      (λ u. is_sink u ≡ true → call_test (failed_by_devices rest answers) o n u ≡ test u)
      (λ u less. sink_test devices rest answers o n u (left u.0 less))
      (uses (take (length plan) plan)) (below_uses plan (length plan)))))
      ∙ sym (list_any-append test first second)
      ∙ ap (list_any test) (sym (opened_to-all plan plain))
      ∙ any_before test (call_test (failed_with (keeps_by answers) c.failed) o n) (openings plan)
      (all_openings (λ u. test u ≡ call_test (failed_with (keeps_by answers) c.failed) o n u) plan (calls_told o n))

  counts_closed : (o : Op) (n : List ℕ) →
      CountsBy (any_failed (with_keeps (keeps_by answers) c) o n) (before.count o n) (after.count o n)
  counts_closed o n =
      subst (λ b. CountsBy b (before.count o n) (after.count o n))
      (any_closed o n ∙ ap (list_any (call_test (failed_with (keeps_by answers) c.failed) o n)) (sym tell.all_opened))
      (subst (λ k. CountsBy
      (any_failed (course_by (opened_to plan (length plan) 0) (failed_by_devices devices (λ t. WasKept))) o n
      || any_failed (course_by (opened_to plan 0 (length plan)) (failed_by_devices rest answers)) o n)
      k (after.count o n)) (are.counts o n)
      (counts_then
      (any_failed (course_by (opened_to plan (length plan) 0) (failed_by_devices devices (λ t. WasKept))) o n)
      (any_failed (course_by (opened_to plan 0 (length plan)) (failed_by_devices rest answers)) o n)
      (now.count o n) (middle.count o n) (after.count o n) (sources.counts o n) (sinks.closed.counts o n)))

  gave_each : (n : List ℕ) (t : ℕ) → t < length plan → (count : ℕ) →
      raised count (gave_under n (device_at devices t))
      ≡ raised count (sum_by (given_under c n) (uses_of (0 + t, get_or plan t [])))
  gave_each n t within count =
      subst (λ k. raised count (gave_under n (device_at devices t))
      ≡ raised count (sum_by (given_under c n) (uses_of (k, get_or plan t []))))
      (let e : t ≡ 0 + t = omega arith in e)
      (by_told c m memory before.files t (λ fs a b. raised count (gave_under n b)
      ≡ raised count (sum_by (given_under c n) (uses_of (t, fs))))
      refl
      (λ name a b new tells. subst (λ x. raised count (cond (bytes_eq n x) b.value.given 0)
      ≡ raised count (sum_by (given_under c n) ((t, Source name) ∷ []))) (sym (tells.name ∙ new.name_is))
      (given_alike count a.value.given b.value.given (length (c.given t)) new.given
      (tells.gave.counted ∙ ap (λ k. raised k (length (c.given t))) refl) (bytes_eq n name)
      ∙ ap (raised count) (sym (sum_by-cons (given_under c n) (t, Source name) []))))
      (λ name a b new tells. ap (raised count) (sym (sum_by-cons (given_under c n) (t, Sink name) [])))
      (get_or plan t []) (device_at opened t) (device_at devices t) (plain_at plan t plain within) (are.each t within)
      (tell.told t within))

  gave_closed : (n : List ℕ) → after.gave n ≡ raised (before.gave n) (sum_by (given_under c n) c.opened)
  gave_closed n =
      sinks.closed.gave n ∙ raised-none (middle.gave n) ∙ sources.gave n
      ∙ ap (λ ds. raised (now.gave n) (sum_by (gave_under n) ds))
      (ap (λ k. take k devices) (sym tell.count) ∙ take-length devices)
      ∙ raised_alike c n 0 plan devices tell.count (gave_each n) (now.gave n)
      ∙ ap (λ k. raised k (sum_by (given_under c n) (uses plan))) (are.gave n)
      ∙ ap (raised (before.gave n)) (sym (sum_opened (given_under c n) plan plain))
      ∙ ap (λ us. raised (before.gave n) (sum_by (given_under c n) us)) (sym tell.all_opened)

  is_run : IsCourse plan (with_keeps (keeps_by answers) c) before after
  is_run = record {
    order = ([], sym tell.all_opened ∙ sym (append-nil c.opened));
    gives = subst (AllByRecursion (GivesFile before.files (with_keeps (keeps_by answers) c))) (sym tell.all_opened)
        (all_openings (GivesFile before.files (with_keeps (keeps_by answers) c)) plan
        (each_told (GivesFile before.files (with_keeps (keeps_by answers) c))
        (λ t name a b within device new tells. gives_kept before.files c (keeps_by answers) t name
        (gives_told before.files c t name a b new tells))
        (λ t name a b within file device new tells. sink_gives before.files (with_keeps (keeps_by answers) c) t name)));
    counts = counts_closed;
    gave = gave_closed;
    known = subst (λ ks. SameNames ks (before.known ++ flat_map names_of c.opened))
        (sym (sinks.closed.known ∙ sources.known))
        (subst (λ us. SameNames now.known (before.known ++ flat_map names_of us)) (sym tell.all_opened) are.known);
  }

  fault_closed : kept.fault ≡ first_fault (flat_map (keep_faults (with_keeps (keeps_by answers) c)) (uses plan))
  fault_closed = sinks.answered.fault
      ∙ ap (λ us. first_fault (flat_map (keep_faults (course_by [] (failed_by_devices [] answers))) us))
      (uses-take_all plan)
      ∙ ap first_fault (flat_map_same (keep_faults (course_by [] (failed_by_devices [] answers)))
      (keep_faults (with_keeps (keeps_by answers) c))
      (λ u. keep_faults_same (course_by [] (failed_by_devices [] answers)) (with_keeps (keeps_by answers) c) u
      (λ t. refl)) (uses plan))

  -- the file of a sink was empty once it was opened
  sink_was_empty : (m0 m1 m2 : Files) (t : ℕ) (name : List ℕ) → t < length plan → get_or plan t [] ≡ Sink name ∷ [] →
      FilesMade (openings plan) m0 m1 → FilesKeptTo plan 0 devices (λ t. WasKept) m1 m2 → finite.get m2 name ≡ Some []
  sink_was_empty m0 m1 m2 t name within file made same = same.others name refl ∙ made name
      ∙ ap (λ b. cond b (Some []) (finite.get m0 name)) (sink_is_opened plan t name within file plain)

  file_closed : (m0 m1 m2 m3 : Files) → before.files ≡ Some m0 → FilesMade (openings plan) m0 m1 →
      FilesKeptTo plan 0 devices (λ t. WasKept) m1 m2 → FilesKeptTo plan (length plan) rest answers m2 m3 →
      (t : ℕ) (name : List ℕ) (a b : SinkSeen) → t < length plan → get_or plan t [] ≡ Sink name ∷ [] →
      device_at devices t ≡ SeenSink b → IsNewSink before.files name a → SinkTells c m memory t a b →
      IsKeptFile (with_keeps (keeps_by answers) c) m (memory || kept.memory) m3 (t, Sink name)
  file_closed m0 m1 m2 m3 told made same own t name a b within file device new tells =
      written_file (m.bytes t) ((memory || kept.memory) || c.failed Put t) (did_fail (answers t)) (answers t) b.taken
      (finite.get m2 name) (finite.get m3 name) refl
      (tells.told (subst IsSome (sym (subst (λ o. IsEmptyWhereTold o a.taken) told new.taken)) refl))
      (sink_was_empty m0 m1 m2 t name within file made same)
      (λ lost. lost_memory memory kept.memory (c.failed Put t)
      (λ is. sinks.answered.memory is t within lost))
      tells.took
      (λ whole. whole_file memory kept.memory (c.failed Put t) whole tells.all)
      (own.own t name b within within file (left t within ∙ sink_without (device_at devices t) b device))

  files_closed : WhereTold before.files after.files
      (FilesKept plan (with_keeps (keeps_by answers) c) m (memory || kept.memory))
  files_closed = told_three before.files now.files middle.files after.files (FilesMade (openings plan))
      (FilesKeptTo plan 0 devices (λ t. WasKept)) (FilesKeptTo plan (length plan) rest answers)
      (FilesKept plan (with_keeps (keeps_by answers) c) m (memory || kept.memory)) are.files sources.files
      sinks.closed.files
      (λ m0 m1 m2 m3 told made same own. record {
        written = each_told (IsKeptFile (with_keeps (keeps_by answers) c) m (memory || kept.memory) m3)
            (λ t name a b within device new tells. tt)
            (λ t name a b within file device new tells.
            file_closed m0 m1 m2 m3 told made same own t name a b within file device new tells);
        others = λ n none. own.others n (ap (list_any (is_sink_named n)) (uses-take_all plan) ∙ none)
            ∙ same.others n refl ∙ made n
            ∙ ap (λ b. cond b (Some []) (finite.get m0 n)) (none_any (is_sink_named n) (openings plan)
            (all_openings (λ u. is_sink_named n u ≡ false) plan (any_none (is_sink_named n) (uses plan) none)));
      })

  -- the devices of a run that were closed
  pub devices_closed : AreClosed plan c m memory before after kept
  devices_closed = record {
    keeps = keeps_by sinks.answers;
    is_course = is_run;
    fault = fault_closed;
    files = files_closed;
  }
