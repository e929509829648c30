-- How closing a source or keeping a sink counts in the calls of a plan.
use Rattle.std.proofs.Common.{◌≡◌, ℕ, ◌+◌, ◌<◌, List, [], ◌∷◌, ◌++◌, length, take, Bool, true, false, cond, ◌&&◌, ◌||◌, refl, sym, ap, subst, ◌∙◌, arith}
use Rattle.std.specs.Prelude.{◌==◌, if◌then◌else◌, sum_by}
use Rattle.std.specs.List.{AllByRecursion, list_any}
use Rattle.std.specs.Str.{bytes_eq}
use Rattle.std.proofs.Common.{add-one}
use Rattle.std.proofs.Math.Seq.{take-suc}
use Rattle.std.proofs.lemmas.Bool.{eq-eqb, ne_eqb}
use Rattle.std.proofs.lemmas.List.Folds.{list_any-append}
use Rattle.std.proofs.lemmas.List.Sums.{sum_by-append, sum_by-cons}
use Rattle.std.proofs.lemmas.Slice.Eq.{bytes_eq-Decides}
use Rattle.osm_host.specs.Counts.{raised}
use Rattle.osm_host.specs.Moments.{Moment}
use Rattle.osm_host.specs.declared.outside.Op.{Op}
use Rattle.osm_host.specs.declared.outside.Op.TheVariants.{Open, Make, Pull, Put, Keep}
use Rattle.osm_machine.specs.Devices.{SourceSeen}
use Rattle.osm_machine.specs.Sinks.{SinkSeen}
use Rattle.osm_run.specs.Plan.{Plan, Sink, Source, Use, is_called, is_named, is_sink, uses}
use Rattle.osm_run.specs.Course.{any_failed}
use Rattle.osm_run.specs.OnHost.{CountsBy}
use Rattle.osm_run.specs.Went.{DeviceSeen, NoDevice, SeenSink, SeenSource, device_at}
use Rattle.osm_run.specs.Opened.{opened_to}
use Rattle.osm_run.specs.Closed.{KeepAnswer, SinkWasKept, SourceWasClosed, WasKept, course_by, did_fail, failed_by_devices, gave_under, pulls_failed, puts_failed}
use Rattle.osm_run.proofs.CallLemmas.{counts_then, raised-raised, raised_by}
use Rattle.osm_run.proofs.EachLemmas.{all_more, filter_all}
use Rattle.osm_run.proofs.UsesLemmas.{below_uses}

pub or_none : (b : Bool) → (b || false) ≡ b
or_none true = refl
or_none false = refl

and_none : (a b : Bool) → (a && (b && false)) ≡ false
and_none true true = refl
and_none true false = refl
and_none false b = refl

-- a count that stays where no call failed
stays_by : (b : Bool) (before now : ℕ) → b ≡ false → now ≡ before → CountsBy b before now
stays_by b before now stays is = subst (λ x. CountsBy x before now) (sym stays) is

-- counts by the calls of files and of one file more
pub counts_more : (us vs : List Use) (u : Use) (failed : Op → ℕ → Bool) (o : Op) (n : List ℕ) (before middle now : ℕ) →
    vs ≡ us ++ u ∷ [] → CountsBy (any_failed (course_by us failed) o n) before middle →
    CountsBy (is_named n u && (is_called o u && failed o u.0)) middle now →
    CountsBy (any_failed (course_by vs failed) o n) before now
counts_more us vs u failed o n before middle now is first second =
    let test : Use → Bool = λ v. is_named n v && (is_called o v && failed o v.0) in
    subst (λ b. CountsBy b before now)
    (ap (λ b. list_any test us || b) (sym (or_none (test u))) ∙ sym (list_any-append test us (u ∷ []))
    ∙ ap (list_any test) (sym is))
    (counts_then (list_any test us) (test u) before middle now first second)

-- the same files
pub counts_same : (us vs : List Use) (failed : Op → ℕ → Bool) (o : Op) (n : List ℕ) (before now : ℕ) → vs ≡ us →
    CountsBy (any_failed (course_by us failed) o n) before now →
    CountsBy (any_failed (course_by vs failed) o n) before now
counts_same us vs failed o n before now is by =
    subst (λ ws. CountsBy (any_failed (course_by ws failed) o n) before now) (sym is) by

-- what was given, with one device more
pub gave_more : (n : List ℕ) (devices : List DeviceSeen) (t : ℕ) (d : DeviceSeen) → t < length devices →
    device_at devices t ≡ d →
    sum_by (gave_under n) (take (t + 1) devices) ≡ sum_by (gave_under n) (take t devices) + gave_under n d
gave_more n devices t d within is =
    ap (λ k. sum_by (gave_under n) (take k devices)) (add-one t)
    ∙ ap (sum_by (gave_under n)) (take-suc devices t NoDevice within)
    ∙ sum_by-append (gave_under n) (take t devices) (device_at devices t ∷ [])
    ∙ ap (λ k. sum_by (gave_under n) (take t devices) + k)
    (sum_by-cons (gave_under n) (device_at devices t) []
    ∙ (let e : gave_under n (device_at devices t) + 0 ≡ gave_under n (device_at devices t) = omega arith in e)
    ∙ ap (gave_under n) is)

-- the counts of closing a source
pub source_counts : (devices : List DeviceSeen) (answers : ℕ → KeepAnswer) (t : ℕ) (name : List ℕ) (source : SourceSeen)
    (before now : Moment) → device_at devices t ≡ SeenSource source → SourceWasClosed name source before now →
    (o : Op) (n : List ℕ) →
    CountsBy (is_named n (t, Source name)
    && (is_called o (t, Source name) && failed_by_devices devices answers o t)) (before.count o n) (now.count o n)
source_counts devices answers t name source before now device closed Open n =
    stays_by (bytes_eq n name && (true && false)) (before.count Open n) (now.count Open n)
    (and_none (bytes_eq n name) true)
    (closed.counts Open n)
source_counts devices answers t name source before now device closed Make n =
    stays_by (bytes_eq n name && (false && false)) (before.count Make n) (now.count Make n)
    (and_none (bytes_eq n name) false) (closed.counts Make n)
source_counts devices answers t name source before now device closed Put n =
    stays_by (bytes_eq n name && (false && puts_failed (device_at devices t))) (before.count Put n) (now.count Put n)
    (and_none (bytes_eq n name) false) (closed.counts Put n)
source_counts devices answers t name source before now device closed Keep n =
    stays_by (bytes_eq n name && (false && did_fail (answers t))) (before.count Keep n) (now.count Keep n)
    (and_none (bytes_eq n name) false) (closed.counts Keep n)
source_counts devices answers t name source before now device closed Pull n =
    by_name (bytes_eq n name) (closed.counts Pull n) where
      by_name : (b : Bool) →
          now.count Pull n ≡ cond b (raised (before.count Pull n) source.value.faults) (before.count Pull n) →
          CountsBy (b && (true && pulls_failed (device_at devices t))) (before.count Pull n) (now.count Pull n)
      by_name true is = subst (λ d. CountsBy (pulls_failed d) (before.count Pull n) (now.count Pull n)) (sym device)
          (raised_by source.value.faults (before.count Pull n) (now.count Pull n) is)
      by_name false is = is

-- what a closed source gave
pub source_gave : (n name : List ℕ) (source : SourceSeen) (before middle now so_far : ℕ) → source.name ≡ name →
    middle ≡ raised before so_far →
    now ≡ cond (bytes_eq n name) (raised middle source.value.given) middle →
    now ≡ raised before (so_far + gave_under n (SeenSource source))
source_gave n name source before middle now so_far named first second =
    subst (λ m. now ≡ raised before (so_far + cond (bytes_eq n m) source.value.given 0)) (sym named)
    (by_name (bytes_eq n name) second) where
      by_name : (b : Bool) → now ≡ cond b (raised middle source.value.given) middle →
          now ≡ raised before (so_far + cond b source.value.given 0)
      by_name true is = is ∙ ap (λ m. raised m source.value.given) first
          ∙ raised-raised before so_far source.value.given
      by_name false is = is ∙ first ∙ ap (raised before) (let e : so_far ≡ so_far + 0 = omega arith in e)

-- the calls of a file that is not open
no_calls : (devices : List DeviceSeen) (answers : ℕ → KeepAnswer) (t : ℕ) → device_at devices t ≡ NoDevice →
    answers t ≡ WasKept → (o : Op) → failed_by_devices devices answers o t ≡ false
no_calls devices answers t device is Open = refl
no_calls devices answers t device is Make = refl
no_calls devices answers t device is Pull = ap pulls_failed device
no_calls devices answers t device is Put = ap puts_failed device
no_calls devices answers t device is Keep = ap did_fail is

pub counts_of_none : (devices : List DeviceSeen) (answers : ℕ → KeepAnswer) (u : Use) →
    device_at devices u.0 ≡ NoDevice →
    answers u.0 ≡ WasKept → (o : Op) (n : List ℕ) (count : ℕ) →
    CountsBy (is_named n u && (is_called o u && failed_by_devices devices answers o u.0)) count count
counts_of_none devices answers u device is o n count =
    stays_by (is_named n u && (is_called o u && failed_by_devices devices answers o u.0)) count count
    (ap (λ b. is_named n u && (is_called o u && b)) (no_calls devices answers u.0 device is o)
    ∙ and_none (is_named n u) (is_called o u)) refl

-- the answers with one more
abbrev pub answers_with : (ℕ → KeepAnswer) → ℕ → KeepAnswer → ℕ → KeepAnswer
answers_with answers t answer x = if x == t then answer else answers x

pub answered_here : (answers : ℕ → KeepAnswer) (t : ℕ) (answer : KeepAnswer) → answers_with answers t answer t ≡ answer
answered_here answers t answer = ap (λ b. if b then answer else answers t) (eq-eqb t t refl)

pub answered_other : (answers : ℕ → KeepAnswer) (t : ℕ) (answer : KeepAnswer) (x : ℕ) → (x ≡ t → ⊥) →
    answers_with answers t answer x ≡ answers x
answered_other answers t answer x other = ap (λ b. if b then answer else answers x) (ne_eqb x t other)

-- what a test says of the sinks of tasks before, where it differs at one task alone
pub any_before : (test other : Use → Bool) (us : List Use) → AllByRecursion (λ u. test u ≡ other u) us →
    list_any test us ≡ list_any other us
any_before test other [] same = refl
any_before test other (u ∷ us) same =
    ap (λ b. b || list_any test us) same.0 ∙ ap (λ b. other u || b) (any_before test other us same.1)

failed_other : (devices : List DeviceSeen) (answers : ℕ → KeepAnswer) (t : ℕ) (answer : KeepAnswer) (o : Op) (x : ℕ) →
    x < t → failed_by_devices devices (answers_with answers t answer) o x ≡ failed_by_devices devices answers o x
failed_other devices answers t answer Open x less = refl
failed_other devices answers t answer Make x less = refl
failed_other devices answers t answer Pull x less = refl
failed_other devices answers t answer Put x less = refl
failed_other devices answers t answer Keep x less =
    ap did_fail (answered_other answers t answer x (λ same. omega (arith, less, same)))

-- the sinks of the first tasks are those of tasks below
kept_below : (plan : Plan) (t : ℕ) → AllByRecursion (λ u. u.0 < t) (opened_to plan 0 t)
kept_below plan t = filter_all (λ u. u.0 < t) is_sink (uses (take t plan)) (below_uses plan t)

-- the counts of what was closed stay so with one answer more
pub counts_before : (plan : Plan) (devices : List DeviceSeen) (answers : ℕ → KeepAnswer) (t : ℕ) (answer : KeepAnswer)
    (o : Op) (n : List ℕ) (before now : ℕ) →
    CountsBy (any_failed (course_by (opened_to plan 0 t) (failed_by_devices devices answers)) o n) before now →
    CountsBy
    (any_failed (course_by (opened_to plan 0 t) (failed_by_devices devices (answers_with answers t answer))) o n)
    before now
counts_before plan devices answers t answer o n before now by =
    let old : Use → Bool = λ u. is_named n u && (is_called o u && failed_by_devices devices answers o u.0) in
    let new : Use → Bool =
    λ u. is_named n u && (is_called o u && failed_by_devices devices (answers_with answers t answer) o u.0) in
    subst (λ b. CountsBy b before now)
    (sym (any_before new old (opened_to plan 0 t)
    (all_more (λ u. u.0 < t) (λ u. new u ≡ old u)
    (λ u less. ap (λ b. is_named n u && (is_called o u && b)) (failed_other devices answers t answer o u.0 less))
    (opened_to plan 0 t) (kept_below plan t)))) by

-- the counts of keeping a sink
pub sink_counts : (devices : List DeviceSeen) (answers : ℕ → KeepAnswer) (t : ℕ) (name : List ℕ) (sink : SinkSeen)
    (answer : KeepAnswer) (before now : Moment) → device_at devices t ≡ SeenSink sink → answers t ≡ answer →
    SinkWasKept name sink answer before now → (o : Op) (n : List ℕ) →
    CountsBy (is_named n (t, Sink name)
    && (is_called o (t, Sink name) && failed_by_devices devices answers o t)) (before.count o n) (now.count o n)
sink_counts devices answers t name sink answer before now device is kept Open n =
    stays_by (bytes_eq n name && (false && false)) (before.count Open n) (now.count Open n)
    (and_none (bytes_eq n name) false) (kept.others Open n refl refl)
sink_counts devices answers t name sink answer before now device is kept Make n =
    stays_by (bytes_eq n name && (true && false)) (before.count Make n) (now.count Make n)
    (and_none (bytes_eq n name) true) (kept.others Make n refl refl)
sink_counts devices answers t name sink answer before now device is kept Pull n =
    stays_by (bytes_eq n name && (false && pulls_failed (device_at devices t))) (before.count Pull n) (now.count Pull n)
    (and_none (bytes_eq n name) false) (kept.others Pull n refl refl)
sink_counts devices answers t name sink answer before now device is kept Put n =
    by_name (bytes_eq n name) refl where
      by_name : (b : Bool) → bytes_eq n name ≡ b →
          CountsBy (b && (true && puts_failed (device_at devices t))) (before.count Put n) (now.count Put n)
      by_name true named =
          subst (λ m. CountsBy (puts_failed (device_at devices t)) (before.count Put m) (now.count Put m))
          (sym ((bytes_eq-Decides n name).0 named))
          (subst (λ d. CountsBy (puts_failed d) (before.count Put name) (now.count Put name)) (sym device)
          (raised_by sink.faults (before.count Put name) (now.count Put name) kept.puts))
      by_name false other = kept.others Put n refl other
sink_counts devices answers t name sink answer before now device is kept Keep n =
    by_name (bytes_eq n name) refl where
      by_name : (b : Bool) → bytes_eq n name ≡ b →
          CountsBy (b && (true && did_fail (answers t))) (before.count Keep n) (now.count Keep n)
      by_name true named =
          subst (λ m. CountsBy (did_fail (answers t)) (before.count Keep m) (now.count Keep m))
          (sym ((bytes_eq-Decides n name).0 named))
          (subst (λ a. CountsBy (did_fail a) (before.count Keep name) (now.count Keep name)) (sym is) kept.keeps)
      by_name false other = kept.others Keep n other refl
