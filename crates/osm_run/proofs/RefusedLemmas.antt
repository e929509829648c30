-- The run of a command at whose openings a call was refused, once the sources that were opened are closed.
use Rattle.std.proofs.Common.{◌≡◌, ℕ, ◌<◌, List, [], ◌∷◌, ◌++◌, length, Bool, true, false, ◌&&◌, refl, sym, ap, subst, ◌∙◌, arith, inl, inr}
use Rattle.std.specs.Prelude.{◌⊎◌, Contains, Option, Some, None, flat_map, if◌then◌else◌}
use Rattle.std.specs.List.{AllByRecursion}
use Rattle.std.proofs.lemmas.List.{append-nil}
use Rattle.osm_host.specs.Contents.{Files}
use Rattle.osm_host.specs.Counts.{SameCounts, is_at}
use Rattle.osm_host.specs.Moments.{Moment}
use Rattle.osm_host.specs.declared.outside.HostError.{HostError}
use Rattle.osm_host.specs.declared.outside.HostError.TheVariants.{Failed, Memory as HostMemory}
use Rattle.osm_host.specs.declared.outside.Op.{Op}
use Rattle.osm_report.specs.declared.fault.Fault.{Fault}
use Rattle.osm_report.specs.declared.fault.Fault.TheVariants.{Memory}
use Rattle.osm_run.specs.Plan.{Use, is_sink, names_of, openings, uses}
use Rattle.osm_run.specs.Command.{Command}
use Rattle.osm_run.specs.Course.{entries}
use Rattle.osm_run.specs.OnHost.{CountsBy, SameNames}
use Rattle.osm_run.specs.HowFar.{FilesMade, WhereTold}
use Rattle.osm_run.specs.Headline.{SameFiles}
use Rattle.osm_run.specs.Went.{DeviceSeen}
use Rattle.osm_run.specs.Opened.{AreOpened, IsIdleRun, ReadsOrWrites, StoppedAtSink, StoppedAtSource, WasNotOpened, course_at_rest, is_failure, opened_to, refusal_fault}
use Rattle.osm_run.specs.Closed.{WasKept, WereClosed}
use Rattle.osm_run.specs.declared.status.Status.{Status}
use Rattle.osm_run.proofs.EachLemmas.{all_append, all_every}
use Rattle.osm_run.proofs.KnownLemmas.{same_names-trans}
use Rattle.osm_run.proofs.OpeningLemmas.{known_more}
use Rattle.osm_run.proofs.StoppedLemmas.{memory_run, stop_op, stop_use, stopped_run}
use Rattle.osm_run.proofs.UsesLemmas.{opened_to-all}
use Rattle.osm_run.proofs.BeforeLemmas.{StopsAt, sinks_all, sinks_below, stop_place, stops_at_sink, stops_at_source}
use Rattle.osm_run.proofs.RestLemmas.{IsSameMoment, closed_at_rest, rests_yet}

same_then : (before middle now : Option Files) (P : Files → Files → Type 0) → WhereTold before middle P →
    WhereTold middle now SameFiles → ((m n o : Files) → P m n → SameFiles n o → P m o) → WhereTold before now P
same_then None middle now P told same more = tt
same_then (Some m) middle now P told same more =
    let later : WhereTold (Some told.0) now SameFiles = subst (λ x. WhereTold x now SameFiles) told.1 same in
    (later.0, later.1, more m told.0 later.0 told.2 later.2)

made_later : (us : List Use) (m n o : Files) → FilesMade us m n → SameFiles n o → FilesMade us m o
made_later us m n o made same name = same name ∙ made name

stop_names : (sink : Bool) (t : ℕ) (name : List ℕ) → names_of (stop_use sink t name) ≡ name ∷ []
stop_names true t name = refl
stop_names false t name = refl

stop_sink : (sink : Bool) (t : ℕ) (name : List ℕ) → sink ≡ false → is_sink (stop_use sink t name) ≡ false
stop_sink true t name is = is
stop_sink false t name is = refl

module _ (k : Command) (sink : Bool) (t : ℕ) (name : List ℕ) (us : List Use) (before middle now after : Moment)
    (status : Status) (fault : Fault) (stops : StopsAt k sink t name us)
    (files : WhereTold before.files middle.files (FilesMade us))
    (counts : SameCounts before.count middle.count) (gave : (n : List ℕ) → middle.gave n ≡ before.gave n)
    (known : SameNames middle.known (before.known ++ flat_map names_of us))
    (same : IsSameMoment now after) (fault_is : status.fault ≡ fault)
    (ends : status.ends ≡ (if sink then entries k.plan (course_at_rest []) else [])) where
  files_then : now.files ≡ middle.files → WhereTold before.files after.files (FilesMade us)
  files_then is = same_then before.files middle.files after.files (FilesMade us) files
      (subst (λ o. WhereTold o after.files SameFiles) is same.files) (made_later us)

  gave_then : ((n : List ℕ) → now.gave n ≡ middle.gave n) → (n : List ℕ) → after.gave n ≡ before.gave n
  gave_then is n = same.gave n ∙ is n ∙ gave n

  known_then : SameNames now.known (middle.known ++ name ∷ []) →
      SameNames after.known (before.known ++ flat_map names_of (us ++ stop_use sink t name ∷ []))
  known_then is = subst (λ ks. SameNames ks (before.known ++ flat_map names_of (us ++ stop_use sink t name ∷ [])))
      (sym same.known)
      (known_more before.known middle.known now.known us (stop_use sink t name) name (stop_names sink t name) known is)

  counts_then : (b : Bool) (o : Op) (n : List ℕ) → CountsBy b (middle.count o n) (now.count o n) →
      CountsBy b (before.count o n) (after.count o n)
  counts_then b o n by = subst (λ x. CountsBy b x (after.count o n)) (counts o n)
      (subst (λ x. CountsBy b (middle.count o n) x) (sym (same.counts o n)) by)

  memory_ends : (b : Bool) (more : List Use) → status.ends ≡ (if b then entries k.plan (course_at_rest []) else []) →
      (b ≡ false → AllByRecursion (λ v. is_sink v ≡ false) (us ++ more)) →
      (status.ends ≡ entries k.plan (course_at_rest []))
      ⊎ ((status.ends ≡ []) × AllByRecursion (λ v. is_sink v ≡ false) (us ++ more))
  memory_ends true more is none = inl is
  memory_ends false more is none = inr (is, none refl)

  run_by : (refusal : HostError) → fault ≡ refusal_fault t refusal → now.files ≡ middle.files →
      ((o : Op) (n : List ℕ) →
      CountsBy (is_failure refusal && is_at (stop_op sink) name o n) (middle.count o n) (now.count o n)) →
      ((n : List ℕ) → now.gave n ≡ middle.gave n) →
      (SameNames now.known middle.known × (refusal ≡ HostMemory)) ⊎ SameNames now.known (middle.known ++ name ∷ []) →
      IsIdleRun k before after status
  run_by Failed is files counted given (inl never) =
      absurd (let no : Failed ≡ HostMemory = never.1 in cc)
  run_by Failed is files counted given (inr names) =
      stopped_run k before after sink t name us stops.with_it.0 status stops.with_it.1 stops.others
      (files_then files)
      (λ o n. counts_then (is_at (stop_op sink) name o n) o n (counted o n))
      (gave_then given) (known_then names) (fault_is ∙ is) ends
  run_by HostMemory is files counted given (inl names) =
      memory_run k before after us [] stops.before_it.0 (stop_place sink t) status
      (stops.before_it.1 ∙ ap (λ vs. vs ++ stops.before_it.0) (sym (append-nil us)))
      (files_then files) stops.below stops.all
      (λ o n. counts_then false o n (counted o n)) (gave_then given)
      (subst (λ vs. SameNames after.known (before.known ++ flat_map names_of vs)) (sym (append-nil us))
      (subst (λ ks. SameNames ks (before.known ++ flat_map names_of us)) (sym same.known)
      (same_names-trans now.known middle.known (before.known ++ flat_map names_of us) names.0 known)))
      (fault_is ∙ is)
      (memory_ends sink [] ends (λ no. subst (AllByRecursion (λ v. is_sink v ≡ false)) (sym (append-nil us))
      (stops.sourced no)))
  run_by HostMemory is files counted given (inr names) =
      memory_run k before after us (stop_use sink t name ∷ []) stops.with_it.0 (stop_place sink t) status
      stops.with_it.1 (files_then files) stops.below stops.all
      (λ o n. counts_then false o n (counted o n)) (gave_then given)
      (known_then names) (fault_is ∙ is)
      (memory_ends sink (stop_use sink t name ∷ []) ends (λ no.
      all_append (λ v. is_sink v ≡ false) us (stop_use sink t name ∷ []) (stops.sourced no)
      (stop_sink sink t name no, tt)))

  pub refused_run : WasNotOpened (stop_op sink) t name middle now fault → IsIdleRun k before after status
  refused_run refused =
      run_by refused.refusal refused.fault_is refused.files refused.counts refused.gave refused.known

-- the run of a command of which a source was not opened
pub stopped_at_source : (k : Command) (before now after : Moment) (devices : List DeviceSeen) (fault : Fault)
    (status : Status) → AllByRecursion ReadsOrWrites k.plan → StoppedAtSource k.plan before now devices fault →
    WereClosed k.plan (length k.plan) 0 now after devices (λ t. WasKept) → status.fault ≡ fault → status.ends ≡ [] →
    IsIdleRun k before after status
stopped_at_source k before now after devices fault status plain stop closed is ends =
    refused_run k false stop.place stop.name (opened_to k.plan stop.place 0) before stop.middle now after status fault
    (stops_at_source k stop.place stop.name plain stop.within stop.file) stop.opened.files stop.opened.counts
    stop.opened.gave stop.opened.known
    (closed_at_rest k.plan now after devices stop.opened.count
    (rests_yet k.plan stop.place 0 before stop.middle devices plain stop.opened) closed)
    is ends stop.refused

-- the run of a command of which a sink was not opened
pub stopped_at_sink : (k : Command) (before now after : Moment) (devices : List DeviceSeen) (fault : Fault)
    (status : Status) → AllByRecursion ReadsOrWrites k.plan → StoppedAtSink k.plan before now devices fault →
    WereClosed k.plan (length k.plan) 0 now after devices (λ t. WasKept) → status.fault ≡ fault →
    status.ends ≡ entries k.plan (course_at_rest []) → IsIdleRun k before after status
stopped_at_sink k before now after devices fault status plain stop closed is ends =
    refused_run k true stop.place stop.name (opened_to k.plan (length k.plan) stop.place) before stop.middle now after
    status fault (stops_at_sink k stop.place stop.name plain stop.within stop.file) stop.opened.files stop.opened.counts
    stop.opened.gave stop.opened.known
    (closed_at_rest k.plan now after devices stop.opened.count
    (rests_yet k.plan (length k.plan) stop.place before stop.middle devices plain stop.opened) closed)
    is ends stop.refused

-- the run of a command that was out of memory before anything was opened
pub nothing_happened : (k : Command) (moment : Moment) (status : Status) →
    status.fault ≡ Memory → status.ends ≡ [] → IsIdleRun k moment moment status
nothing_happened k moment status fault ends =
    memory_run k moment moment [] [] (openings k.plan) 0 status refl (made_none moment.files) tt
    (all_every (λ v. is_sink v ≡ true → v.0 < 0 → Contains [] v) (λ v passes less. absurd (omega (arith, less)))
    (uses k.plan))
    (λ o n. refl) (λ n. refl)
    (λ n. (
      λ has. subst (λ ks. Contains ks n) (sym (append-nil moment.known)) has,
      λ has. subst (λ ks. Contains ks n) (append-nil moment.known) has,
    )) fault (inr (ends, tt)) where
      made_none : (files : Option Files) → WhereTold files files (FilesMade [])
      made_none None = tt
      made_none (Some m) = (m, refl, λ n. refl)

pub nothing_opened : (k : Command) (moment : Moment) (status : Status) → AllByRecursion ReadsOrWrites k.plan →
    status.fault ≡ Memory → status.ends ≡ [] → IsIdleRun k moment moment status
nothing_opened k moment status plain = nothing_happened k moment status

-- the run of a command whose files were all opened, and which then was out of memory before its tasks ran
pub memory_after_opening : (k : Command) (before now after : Moment) (devices : List DeviceSeen) (status : Status) →
    AllByRecursion ReadsOrWrites k.plan → AreOpened k.plan before now devices → after.files ≡ now.files →
    SameCounts now.count after.count → ((n : List ℕ) → after.gave n ≡ now.gave n) → after.known ≡ now.known →
    status.fault ≡ Memory → status.ends ≡ entries k.plan (course_at_rest []) → IsIdleRun k before after status
memory_after_opening k before now after devices status plain were files counts gave known fault ends =
    let n : ℕ = length k.plan in
    let us : List Use = opened_to k.plan n n in
    let same : openings k.plan ≡ us = opened_to-all k.plan plain in
    memory_run k before after us [] [] n status (same ∙ sym (append-nil us) ∙ sym (append-nil (us ++ [])))
    (subst (λ o. WhereTold before.files o (FilesMade us)) (sym files)
    (subst (λ vs. WhereTold before.files now.files (FilesMade vs)) same were.files))
    (sinks_below k.plan n) (sinks_all k.plan n n (omega arith))
    (λ o m. counts o m ∙ were.counts o m) (λ m. gave m ∙ were.gave m)
    (subst (λ vs. SameNames after.known (before.known ++ flat_map names_of vs)) (same ∙ sym (append-nil us))
    (subst (λ ks. SameNames ks (before.known ++ flat_map names_of (openings k.plan))) (sym known) were.known))
    fault (inl ends)
