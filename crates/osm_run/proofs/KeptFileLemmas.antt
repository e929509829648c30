-- How the files of a plan change as its sinks are kept, one after the other.
use Rattle.std.proofs.Common.{◌≡◌, ℕ, ◌+◌, ◌<◌, List, [], ◌∷◌, ◌++◌, length, take, get_or, Bool, true, false, refl, sym, ap, subst, ◌∙◌, arith, inl, inr}
use Rattle.std.specs.Prelude.{Option, Some, None, Result, Ok, Err}
use Rattle.std.specs.FinMap as finite
use Rattle.std.specs.List.{AllByRecursion, list_any}
use Rattle.std.specs.Str.{bytes_eq}
use Rattle.std.proofs.lemmas.Bool.{cases_eq, or_parts}
use Rattle.std.proofs.lemmas.List.{get_or-take, length-take}
use Rattle.std.proofs.lemmas.List.Folds.{list_any-append}
use Rattle.std.proofs.lemmas.Slice.Eq.{bytes_eq-Decides}
use Rattle.osm_host.specs.Contents.{Files, KeepsFile}
use Rattle.osm_host.specs.Counts.{KeepCounts}
use Rattle.osm_host.specs.Moments.{Moment}
use Rattle.osm_host.specs.declared.outside.HostError.{HostError}
use Rattle.osm_host.specs.declared.outside.HostError.TheVariants.{Failed, Memory as HostMemory}
use Rattle.osm_host.specs.declared.outside.Op.{Op}
use Rattle.osm_machine.specs.Sinks.{SinkSeen}
use Rattle.osm_run.specs.Plan.{File, Plan, Sink, is_sink_named, uses, uses_of}
use Rattle.osm_run.specs.HowFar.{WhereTold}
use Rattle.osm_run.specs.Went.{DeviceSeen, NoDevice, SeenSink, device_at}
use Rattle.osm_run.specs.Opened.{ReadsOrWrites, opened_to, sink_name}
use Rattle.osm_run.specs.Closed.{AreSinksApart, FilesKeptTo, HadNoMemory, HasFailed, IsKeptAs, KeepAnswer, KeepsAs, SinkWasKept, WasKept, WereClosed, keep_answer, failed_by_devices}
use Rattle.osm_run.proofs.CallLemmas.{get-insert_other, get-insert_own}
use Rattle.osm_run.proofs.CleanLemmas.{told_more}
use Rattle.osm_run.proofs.EachLemmas.{none_any}
use Rattle.osm_run.proofs.UsesLemmas.{by_plain, each_use, opened_to-sink, opened_to-skip_sink, plain_at, uses-take}
use Rattle.osm_run.proofs.ClosedCountLemmas.{answered_here, answered_other, answers_with, counts_before, counts_more, counts_of_none, counts_same, or_none, sink_counts}

-- a keep, by what a host says of it
pub kept_by : {T : Type 0} (result : Result T HostError) (name : List ℕ) (sink : SinkSeen) (before now : Moment) →
    KeepsFile result name sink.taken before.files now.files →
    KeepCounts name sink.faults before.count now.count result → ((n : List ℕ) → now.gave n ≡ before.gave n) →
    now.known ≡ before.known → SinkWasKept name sink (keep_answer result) before now
kept_by (Ok x) name sink before now files counts gave known = record {
  files = files;
  puts = counts.puts;
  keeps = counts.kept;
  others = counts.others;
  gave = gave;
  known = known;
}
kept_by (Err Failed) name sink before now files counts gave known = record {
  files = files;
  puts = counts.puts;
  keeps = counts.kept;
  others = counts.others;
  gave = gave;
  known = known;
}
kept_by (Err HostMemory) name sink before now files counts gave known = record {
  files = files;
  puts = counts.puts;
  keeps = counts.kept;
  others = counts.others;
  gave = gave;
  known = known;
}

-- the files before and after a keep: that of its name, and all others
pub record KeptNow (name : List ℕ) (taken : Option (List ℕ)) (answer : KeepAnswer) (before now : Files) : Type 0 where
  pub own : IsKeptAs answer taken (finite.get before name) (finite.get now name)
  pub others : (n : List ℕ) → bytes_eq n name ≡ false → finite.get now n ≡ finite.get before n

kept_now : (name : List ℕ) (taken : Option (List ℕ)) (answer : KeepAnswer) (m : Files) (now : Option Files) →
    KeepsAs answer name taken (Some m) now → WhereTold (Some m) now (KeptNow name taken answer)
kept_now name None WasKept m now keeps = (keeps.0, keeps.1, record { own = tt; others = keeps.2 })
kept_now name (Some bytes) WasKept m now keeps = (
  finite.insert m name bytes,
  keeps,
  record { own = get-insert_own m name bytes; others = get-insert_other m name bytes },
)
kept_now name taken HasFailed m now keeps = (keeps.0, keeps.1, record { own = own taken; others = keeps.2 }) where
  own : (taken : Option (List ℕ)) → IsKeptAs HasFailed taken (finite.get m name) (finite.get keeps.0 name)
  own None = tt
  own (Some bytes) = tt
kept_now name taken HadNoMemory m now keeps = (m, keeps, record { own = own taken; others = λ n other. refl }) where
  own : (taken : Option (List ℕ)) → IsKeptAs HadNoMemory taken (finite.get m name) (finite.get m name)
  own None = refl
  own (Some bytes) = refl

-- the same answer of the same name
kept_as : (a b : KeepAnswer) (taken : Option (List ℕ)) (old was now is : Option (List ℕ)) → b ≡ a → was ≡ old →
    now ≡ is → IsKeptAs a taken old is → IsKeptAs b taken was now
kept_as a b taken old was now is same before after kept =
    subst (λ x. IsKeptAs x taken was now) (sym same)
    (subst (λ x. IsKeptAs a taken x now) (sym before)
    (subst (λ x. IsKeptAs a taken old x) (sym after) kept))

not_same : (n m : List ℕ) → (n ≡ m → ⊥) → bytes_eq n m ≡ false
not_same n m other = by_case (bytes_eq n m) refl where
  by_case : (b : Bool) → bytes_eq n m ≡ b → b ≡ false
  by_case true is = absurd (other ((bytes_eq-Decides n m).0 is))
  by_case false is = refl

-- no sink of a task before has the name of a later one
none_earlier : (plan : Plan) (t : ℕ) (name : List ℕ) → AreSinksApart plan → t < length plan →
    get_or plan t [] ≡ Sink name ∷ [] → AllByRecursion ReadsOrWrites plan →
    list_any (is_sink_named name) (uses (take t plan)) ≡ false
none_earlier plan t name apart within file plain =
    none_any (is_sink_named name) (uses (take t plan))
    (each_use (λ u. is_sink_named name u ≡ false) (take t plan) (λ x less.
    let below : x < t = omega (arith, less, length-take t plan) in
    subst (λ fs. AllByRecursion (λ u. is_sink_named name u ≡ false) (uses_of (x, fs)))
    (sym (get_or-take t plan x [] below))
    (by_plain (λ fs. get_or plan x [] ≡ fs → AllByRecursion (λ u. is_sink_named name u ≡ false) (uses_of (x, fs)))
    (λ is. tt) (λ other is. (refl, tt))
    (λ other is. (
      not_same name other (λ same. apart x t name below within
          (is ∙ ap (λ m. Sink m ∷ []) (sym same)) file),
      tt,
    ))
    (get_or plan x []) (plain_at plan x plain (omega (arith, below, within))) refl)))

sink_name_is : (a b : List ℕ) → Sink a ∷ [] ≡ Sink b ∷ [] → a ≡ b
sink_name_is a b is = cc

sink_seen_is : (a b : SinkSeen) → SeenSink a ≡ SeenSink b → a ≡ b
sink_seen_is a b is = cc

-- the files with one more sink kept
module _ (plan : Plan) (t : ℕ) (devices : List DeviceSeen) (answers : ℕ → KeepAnswer) (answer : KeepAnswer)
    (name : List ℕ) (sink : SinkSeen) (within : t < length plan) (file : get_or plan t [] ≡ Sink name ∷ [])
    (device : device_at devices t ≡ SeenSink sink) (apart : AreSinksApart plan)
    (plain : AllByRecursion ReadsOrWrites plan) (was middle now : Files)
    (kept : FilesKeptTo plan t devices answers was middle) (one : KeptNow name sink.taken answer middle now) where
  own_here : (x : ℕ) (other : List ℕ) (seen : SinkSeen) → x ≡ t → get_or plan x [] ≡ Sink other ∷ [] →
      device_at devices x ≡ SeenSink seen →
      IsKeptAs (answers_with answers t answer x) seen.taken (finite.get was other) (finite.get now other)
  own_here x other seen same is has =
      let named : other ≡ name = sink_name_is other name (sym is ∙ ap (λ y. get_or plan y []) same ∙ file) in
      let sink_is : seen ≡ sink = sink_seen_is seen sink (sym has ∙ ap (device_at devices) same ∙ device) in
      subst (λ m. IsKeptAs (answers_with answers t answer x) seen.taken (finite.get was m) (finite.get now m))
      (sym named)
      (subst (λ s. IsKeptAs (answers_with answers t answer x) s.taken (finite.get was name) (finite.get now name))
      (sym sink_is)
      (kept_as answer (answers_with answers t answer x) sink.taken (finite.get middle name) (finite.get was name)
      (finite.get now name) (finite.get now name)
      (ap (answers_with answers t answer) same ∙ answered_here answers t answer)
      (sym (kept.others name (none_earlier plan t name apart within file plain))) refl one.own))

  own_before : (x : ℕ) (other : List ℕ) (seen : SinkSeen) → x < t → get_or plan x [] ≡ Sink other ∷ [] →
      device_at devices x ≡ SeenSink seen →
      IsKeptAs (answers_with answers t answer x) seen.taken (finite.get was other) (finite.get now other)
  own_before x other seen less is has =
      kept_as (answers x) (answers_with answers t answer x) seen.taken (finite.get was other) (finite.get was other)
      (finite.get now other) (finite.get middle other)
      (answered_other answers t answer x (λ same. omega (arith, less, same))) refl
      (one.others other (not_same other name (λ same. apart x t name less within
      (is ∙ ap (λ m. Sink m ∷ []) same) file)))
      (kept.own x other seen less (omega (arith, less, within)) is has)

  pub files_with : FilesKeptTo plan (t + 1) devices (answers_with answers t answer) was now
  files_with = record {
    own = λ x other seen less inside is has. elim (cases_eq x t) [
      | inl same ↦ own_here x other seen same is has
      | inr differs ↦ own_before x other seen (omega (arith, less, differs)) is has
    ];
    others = λ n none.
        let both = or_parts (list_any (is_sink_named n) (uses (take t plan)))
        (list_any (is_sink_named n) ((t, Sink name) ∷ []))
        (sym (list_any-append (is_sink_named n) (uses (take t plan)) ((t, Sink name) ∷ []))
        ∙ sym (ap (list_any (is_sink_named n)) (uses-take plan t within
        ∙ ap (λ fs. uses (take t plan) ++ uses_of (t, fs)) file)) ∙ none) in
        one.others n (sym (or_none (bytes_eq n name)) ∙ both.1) ∙ kept.others n both.0;
  }

told_two : (before middle now : Option Files) (P Q R : Files → Files → Type 0) → WhereTold before middle P →
    ((n : Files) → middle ≡ Some n → WhereTold (Some n) now Q) → ((m n o : Files) → P m n → Q n o → R m o) →
    WhereTold before now R
told_two None middle now P Q R told next both = tt
told_two (Some m) middle now P Q R told next both =
    let later : WhereTold (Some told.0) now Q = next told.0 told.1 in
    (later.0, later.1, both m told.0 later.0 told.2 later.2)

-- the sink of one task more was kept
pub sink_kept : (plan : Plan) (t : ℕ) (before middle now : Moment) (devices : List DeviceSeen)
    (answers : ℕ → KeepAnswer) (answer : KeepAnswer) (name : List ℕ) (sink : SinkSeen) → t < length plan →
    get_or plan t [] ≡ Sink name ∷ [] → device_at devices t ≡ SeenSink sink → AreSinksApart plan →
    AllByRecursion ReadsOrWrites plan → WereClosed plan 0 t before middle devices answers →
    SinkWasKept name sink answer middle now →
    WereClosed plan 0 (t + 1) before now devices (answers_with answers t answer)
sink_kept plan t before middle now devices answers answer name sink within file device apart plain were kept =
    let grows : opened_to plan 0 (t + 1) ≡ opened_to plan 0 t ++ (t, Sink name) ∷ [] =
    opened_to-sink plan 0 t name within file in
    let failed : Op → ℕ → Bool = failed_by_devices devices (answers_with answers t answer) in
    record {
      counts = λ o n. counts_more (opened_to plan 0 t) (opened_to plan 0 (t + 1)) (t, Sink name) failed o n
          (before.count o n) (middle.count o n) (now.count o n) grows
          (counts_before plan devices answers t answer o n (before.count o n) (middle.count o n) (were.counts o n))
          (sink_counts devices (answers_with answers t answer) t name sink answer middle now device
          (answered_here answers t answer) kept o n);
      gave = λ n. kept.gave n ∙ were.gave n;
      known = kept.known ∙ were.known;
      files = told_two before.files middle.files now.files (FilesKeptTo plan t devices answers)
          (KeptNow name sink.taken answer) (FilesKeptTo plan (t + 1) devices (answers_with answers t answer)) were.files
          (λ n is. kept_now name sink.taken answer n now.files
          (subst (λ o. KeepsAs answer name sink.taken o now.files) is kept.files))
          (λ m n o so_far one. files_with plan t devices answers answer name sink within file device apart plain m n o
          so_far one);
    }

-- the next task has no sink
pub sink_left : (plan : Plan) (t : ℕ) (before now : Moment) (devices : List DeviceSeen) (answers : ℕ → KeepAnswer) →
    t < length plan → sink_name (get_or plan t []) ≡ None → AllByRecursion ReadsOrWrites plan →
    WereClosed plan 0 t before now devices answers → WereClosed plan 0 (t + 1) before now devices answers
sink_left plan t before now devices answers within none plain were =
    let same : opened_to plan 0 (t + 1) ≡ opened_to plan 0 t =
    opened_to-skip_sink plan 0 t within (plain_at plan t plain within) none in
    record {
      counts = λ o n. counts_same (opened_to plan 0 t) (opened_to plan 0 (t + 1)) (failed_by_devices devices answers)
          o n (before.count o n) (now.count o n) same (were.counts o n);
      gave = were.gave;
      known = were.known;
      files = told_more before.files now.files (FilesKeptTo plan t devices answers)
          (FilesKeptTo plan (t + 1) devices answers) were.files
          (λ was is kept. record {
            own = λ x name sink less inside file device. elim (cases_eq x t) [
              | inl same ↦ absurd (no_name (get_or plan t []) name
                  (ap (λ y. get_or plan y []) (sym same) ∙ file) none)
              | inr differs ↦ kept.own x name sink (omega (arith, less, differs)) inside file device
            ];
            others = λ n no. kept.others n (or_parts (list_any (is_sink_named n) (uses (take t plan)))
                (list_any (is_sink_named n) (uses_of (t, get_or plan t [])))
                (sym (list_any-append (is_sink_named n) (uses (take t plan)) (uses_of (t, get_or plan t [])))
                ∙ sym (ap (list_any (is_sink_named n)) (uses-take plan t within)) ∙ no)).0;
          });
    } where
      no_name : (files : List File) (name : List ℕ) → files ≡ Sink name ∷ [] → sink_name files ≡ None → ⊥
      no_name files name is none = let never : Some name ≡ None = sym (ap sink_name is) ∙ none in cc

-- the sink of the next task was not opened, and its keep was not asked
pub sink_unopened : (plan : Plan) (t : ℕ) (before now : Moment) (devices : List DeviceSeen)
    (answers : ℕ → KeepAnswer) (name : List ℕ) → t < length plan → get_or plan t [] ≡ Sink name ∷ [] →
    device_at devices t ≡ NoDevice → answers t ≡ WasKept → WereClosed plan 0 t before now devices answers →
    WereClosed plan 0 (t + 1) before now devices answers
sink_unopened plan t before now devices answers name within file device is were =
    let grows : opened_to plan 0 (t + 1) ≡ opened_to plan 0 t ++ (t, Sink name) ∷ [] =
    opened_to-sink plan 0 t name within file in
    record {
      counts = λ o n. counts_more (opened_to plan 0 t) (opened_to plan 0 (t + 1)) (t, Sink name)
          (failed_by_devices devices answers) o n (before.count o n) (now.count o n) (now.count o n) grows
          (were.counts o n) (counts_of_none devices answers (t, Sink name) device is o n (now.count o n));
      gave = were.gave;
      known = were.known;
      files = told_more before.files now.files (FilesKeptTo plan t devices answers)
          (FilesKeptTo plan (t + 1) devices answers) were.files
          (λ was after kept. record {
            own = λ x other sink less inside has seen. elim (cases_eq x t) [
              | inl same ↦ absurd (not_open sink (sym device ∙ ap (device_at devices) (sym same) ∙ seen))
              | inr differs ↦ kept.own x other sink (omega (arith, less, differs)) inside has seen
            ];
            others = λ n none. kept.others n (or_parts (list_any (is_sink_named n) (uses (take t plan)))
                (list_any (is_sink_named n) ((t, Sink name) ∷ []))
                (sym (list_any-append (is_sink_named n) (uses (take t plan)) ((t, Sink name) ∷ []))
                ∙ sym (ap (list_any (is_sink_named n)) (uses-take plan t within
                ∙ ap (λ fs. uses (take t plan) ++ uses_of (t, fs)) file)) ∙ none)).0;
          });
    } where
      not_open : (sink : SinkSeen) → NoDevice ≡ SeenSink sink → ⊥
      not_open sink is = cc
