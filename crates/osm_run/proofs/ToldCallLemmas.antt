-- What closed devices tell of the calls that failed.
use Rattle.std.proofs.Common.{◌≡◌, ℕ, ◌+◌, ◌<◌, List, [], ◌∷◌, ◌++◌, length, take, drop, get_or, Bool, true, false, ◌&&◌, ◌||◌, refl, sym, ap, subst, ◌∙◌, inl, inr}
use Rattle.std.specs.Prelude.{Option, Some, None, filter}
use Rattle.std.specs.List.{AllByRecursion, list_any}
use Rattle.std.specs.Str.{bytes_eq}
use Rattle.std.proofs.lemmas.Bool.{or_left, or_right}
use Rattle.std.proofs.lemmas.List.Elements.{filter-append}
use Rattle.std.proofs.lemmas.List.Folds.{list_any-append}
use Rattle.osm_entity.specs.Meaning.{Meaning}
use Rattle.osm_host.specs.Contents.{Files}
use Rattle.osm_host.specs.declared.outside.Op.{Op}
use Rattle.osm_host.specs.declared.outside.Op.TheVariants.{Open, Make, Pull, Put, Keep}
use Rattle.osm_machine.specs.Devices.{SourceSeen}
use Rattle.osm_machine.specs.Sinks.{SinkSeen}
use Rattle.osm_report.specs.declared.fault.DeviceCall.TheVariants.{Keep as KeepCall}
use Rattle.osm_run.specs.Plan.{Plan, Polygon, Sink, Source, Store, Use, is_called, is_named, is_sink, is_sink_named, is_source, openings, uses}
use Rattle.osm_run.specs.Course.{Course, call_fault, keep_faults}
use Rattle.osm_run.specs.OnHost.{GivesFile}
use Rattle.osm_run.specs.HowFar.{WhereTold}
use Rattle.osm_run.specs.Went.{DeviceSeen, NoDevice, SeenSink, SeenSource, SinkTells, SourceTells, device_at, failed_with, with_keeps}
use Rattle.osm_run.specs.Opened.{ReadsOrWrites}
use Rattle.osm_run.specs.Closed.{KeepAnswer, did_fail, failed_by_devices, pulls_failed, puts_failed, without_source}
use Rattle.osm_run.proofs.CallLemmas.{text_same, there_by}
use Rattle.osm_run.proofs.UsesLemmas.{openings_are, opened_to-sink, uses-split, uses_from}

-- which keeps failed, by the answers to them
abbrev pub keeps_by : (ℕ → KeepAnswer) → ℕ → Bool
keeps_by answers t = did_fail (answers t)

-- calls of a source and of a sink that failed, as its device tells, are those of the course
pub source_calls : (c : Course) (devices : List DeviceSeen) (answers : ℕ → KeepAnswer) (t : ℕ) (name : List ℕ)
    (opened now : SourceSeen) → c.failed Open t ≡ false → opened.value.faults ≡ 0 → SourceTells c t opened now →
    device_at devices t ≡ SeenSource now → (o : Op) →
    (is_called o (t, Source name) && failed_by_devices devices answers o t)
    ≡ (is_called o (t, Source name) && failed_with (keeps_by answers) c.failed o t)
source_calls c devices answers t name opened now opens none tells device Open = sym opens
source_calls c devices answers t name opened now opens none tells device Make = refl
source_calls c devices answers t name opened now opens none tells device Pull =
    ap pulls_failed device ∙ there_by (c.failed Pull t) opened.value.faults now.value.faults none tells.pulls
source_calls c devices answers t name opened now opens none tells device Put = refl
source_calls c devices answers t name opened now opens none tells device Keep = refl

pub sink_calls : (c : Course) (m : Meaning) (memory : Bool) (devices : List DeviceSeen) (answers : ℕ →
    KeepAnswer) (t : ℕ)
    (name : List ℕ) (opened now : SinkSeen) → c.failed Make t ≡ false → opened.faults ≡ 0 →
    SinkTells c m memory t opened now → device_at devices t ≡ SeenSink now → (o : Op) →
    (is_called o (t, Sink name) && failed_by_devices devices answers o t)
    ≡ (is_called o (t, Sink name) && failed_with (keeps_by answers) c.failed o t)
sink_calls c m memory devices answers t name opened now makes none tells device Open = refl
sink_calls c m memory devices answers t name opened now makes none tells device Make = sym makes
sink_calls c m memory devices answers t name opened now makes none tells device Pull = refl
sink_calls c m memory devices answers t name opened now makes none tells device Put =
    ap puts_failed device ∙ there_by (c.failed Put t) opened.faults now.faults none tells.puts
sink_calls c m memory devices answers t name opened now makes none tells device Keep = refl

-- a device without its source has the same puts
puts_without : (d : DeviceSeen) → puts_failed (without_source d) ≡ puts_failed d
puts_without NoDevice = refl
puts_without (SeenSource source) = refl
puts_without (SeenSink sink) = refl

pub sink_without : (d : DeviceSeen) (sink : SinkSeen) → d ≡ SeenSink sink → without_source d ≡ SeenSink sink
sink_without d sink is = ap without_source is

-- the test of whether a call on a file failed
abbrev pub call_test : (Op → ℕ → Bool) → Op → List ℕ → Use → Bool
call_test failed o n u = is_named n u && (is_called o u && failed o u.0)

-- closing a source asks nothing of keeps
pub source_test : (devices : List DeviceSeen) (some other : ℕ → KeepAnswer) (o : Op) (n : List ℕ) (u : Use) →
    is_source u ≡ true →
    call_test (failed_by_devices devices some) o n u ≡ call_test (failed_by_devices devices other) o n u
source_test devices some other o n (t, Polygon name) is = absurd (let no : false ≡ true = is in cc)
source_test devices some other o n (t, Store) is = absurd (let no : false ≡ true = is in cc)
source_test devices some other o n (t, Sink name) is = absurd (let no : false ≡ true = is in cc)
source_test devices some other o n (t, Source name) is = ap (λ b. bytes_eq n name && b) (by_op o) where
  by_op : (o : Op) → (is_called o (t, Source name) && failed_by_devices devices some o t)
      ≡ (is_called o (t, Source name) && failed_by_devices devices other o t)
  by_op Open = refl
  by_op Make = refl
  by_op Pull = refl
  by_op Put = refl
  by_op Keep = refl

-- keeping a sink asks nothing of sources
pub sink_test : (devices rest : List DeviceSeen) (answers : ℕ → KeepAnswer) (o : Op) (n : List ℕ) (u : Use) →
    device_at rest u.0 ≡ without_source (device_at devices u.0) → is_sink u ≡ true →
    call_test (failed_by_devices rest answers) o n u ≡ call_test (failed_by_devices devices answers) o n u
sink_test devices rest answers o n (t, Polygon name) device is = absurd (let no : false ≡ true = is in cc)
sink_test devices rest answers o n (t, Store) device is = absurd (let no : false ≡ true = is in cc)
sink_test devices rest answers o n (t, Source name) device is = absurd (let no : false ≡ true = is in cc)
sink_test devices rest answers o n (t, Sink name) device is = ap (λ b. bytes_eq n name && b) (by_op o) where
  by_op : (o : Op) → (is_called o (t, Sink name) && failed_by_devices rest answers o t)
      ≡ (is_called o (t, Sink name) && failed_by_devices devices answers o t)
  by_op Open = refl
  by_op Make = refl
  by_op Pull = refl
  by_op Put = ap puts_failed device ∙ puts_without (device_at devices t)
  by_op Keep = refl

pub keep_faults_same : (c d : Course) (u : Use) → ((t : ℕ) → c.failed Keep t ≡ d.failed Keep t) →
    keep_faults c u ≡ keep_faults d u
keep_faults_same c d (t, Polygon name) same = refl
keep_faults_same c d (t, Source name) same = refl
keep_faults_same c d (t, Store) same = refl
keep_faults_same c d (t, Sink name) same = ap (call_fault t KeepCall) (same t)

pub told_three : (before opened middle now : Option Files) (P Q R S : Files → Files → Type 0) →
    WhereTold before opened P →
    WhereTold opened middle Q → WhereTold middle now R →
    ((m n o p : Files) → before ≡ Some m → P m n → Q n o → R o p → S m p) → WhereTold before now S
told_three None opened middle now P Q R S first second third all = tt
told_three (Some m) opened middle now P Q R S first second third all =
    let two : WhereTold (Some first.0) middle Q = subst (λ o. WhereTold o middle Q) first.1 second in
    let three : WhereTold (Some two.0) now R = subst (λ o. WhereTold o now R) two.1 third in
    (three.0, three.1, all m first.0 two.0 three.0 refl first.2 two.2 three.2)

-- a course gives the same with other keeps
pub gives_kept : (told : Option Files) (c : Course) (keeps : ℕ → Bool) (t : ℕ) (name : List ℕ) →
    GivesFile told c (t, Source name) → GivesFile told (with_keeps keeps c) (t, Source name)
gives_kept None c keeps t name gives = tt
gives_kept (Some files) c keeps t name gives = elim gives [
  | inl rest ↦ inl (record { given = rest.given; clean = rest.clean; pulled = rest.pulled })
  | inr from ↦ inr from
]

pub sink_gives : (told : Option Files) (c : Course) (t : ℕ) (name : List ℕ) → GivesFile told c (t, Sink name)
sink_gives None c t name = tt
sink_gives (Some files) c t name = tt

-- a sink of a plan is among its openings
pub sink_is_opened : (plan : Plan) (t : ℕ) (name : List ℕ) → t < length plan → get_or plan t [] ≡ Sink name ∷ [] →
    AllByRecursion ReadsOrWrites plan → list_any (is_sink_named name) (openings plan) ≡ true
sink_is_opened plan t name within file plain =
    ap (list_any (is_sink_named name)) (openings_are plan plain)
    ∙ list_any-append (is_sink_named name) (filter is_source (uses plan)) (filter is_sink (uses plan))
    ∙ or_right (list_any (is_sink_named name) (filter is_source (uses plan)))
    (list_any (is_sink_named name) (filter is_sink (uses plan)))
    (ap (λ us. list_any (is_sink_named name) (filter is_sink us)) (uses-split plan (t + 1))
    ∙ ap (list_any (is_sink_named name)) (filter-append is_sink (uses (take (t + 1) plan))
    (uses_from (length (take (t + 1) plan)) (drop (t + 1) plan))
    ∙ ap (λ us. us ++ filter is_sink (uses_from (length (take (t + 1) plan)) (drop (t + 1) plan)))
    (opened_to-sink plan 0 t name within file))
    ∙ list_any-append (is_sink_named name) (filter is_sink (uses (take t plan)) ++ (t, Sink name) ∷ [])
    (filter is_sink (uses_from (length (take (t + 1) plan)) (drop (t + 1) plan)))
    ∙ or_left (list_any (is_sink_named name) (filter is_sink (uses (take t plan)) ++ (t, Sink name) ∷ []))
    (list_any (is_sink_named name) (filter is_sink (uses_from (length (take (t + 1) plan)) (drop (t + 1) plan))))
    (list_any-append (is_sink_named name) (filter is_sink (uses (take t plan))) ((t, Sink name) ∷ [])
    ∙ or_right (list_any (is_sink_named name) (filter is_sink (uses (take t plan)))) (bytes_eq name name || false)
    (or_left (bytes_eq name name) false (text_same name))))

-- a file is cut short where a keep was out of memory
pub lost_memory : (run keep put : Bool) → (keep ≡ false → ⊥) → ((run || keep) || put) ≡ true
lost_memory true keep put lost = refl
lost_memory false true put lost = refl
lost_memory false false put lost = absurd (lost refl)

-- and whole where memory was there and no put failed
pub whole_file : (run keep put : Bool) → ((run || keep) || put) ≡ false → {P : Type 0} →
    (run ≡ false → put ≡ false → P) →
    P
whole_file true keep put is all = absurd (let no : true ≡ false = is in cc)
whole_file false true put is all = absurd (let no : true ≡ false = is in cc)
whole_file false false put is all = all refl is
