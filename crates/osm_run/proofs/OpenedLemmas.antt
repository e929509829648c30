-- How the files of a plan are opened, one after the other.
use Rattle.std.proofs.Common.{◌≡◌, ℕ, ◌+◌, ◌<◌, List, [], ◌∷◌, ◌++◌, length, get_or, set, true, false, refl, sym, subst, ◌∙◌, arith}
use Rattle.std.specs.Prelude.{Contains, Option, Some, None, flat_map, nat_lt}
use Rattle.std.specs.List.{AllByRecursion}
use Rattle.std.proofs.lemmas.Bool.{lt-ltb, le-ltb}
use Rattle.std.proofs.lemmas.List.{append-nil, length-set}
use Rattle.osm_host.specs.Contents.{Files}
use Rattle.osm_host.specs.Moments.{Moment}
use Rattle.osm_machine.specs.Devices.{SourceSeen}
use Rattle.osm_machine.specs.Sinks.{SinkSeen}
use Rattle.osm_run.specs.Plan.{File, Plan, Sink, Source, Use, names_of}
use Rattle.osm_run.specs.OnHost.{SameNames}
use Rattle.osm_run.specs.HowFar.{FilesMade, WhereTold}
use Rattle.osm_run.specs.Went.{DeviceSeen, NoDevice, SeenSink, SeenSource, device_at}
use Rattle.osm_run.specs.Opened.{AreOpened, IsNewSink, IsNewSource, IsOpenedAs, IsOpenedWhere, IsSinkWhere, IsSourceWhere, ReadsOrWrites, SinkIsOpen, SourceIsOpen, WereOpened, opened_to, sink_name, source_name}
use Rattle.osm_run.proofs.OpeningLemmas.{below_more_other, below_next, content_before, device_got, device_kept, each_more, empty_before, known_more, made_more, made_same, not_below, opened_is, skip_sink, skip_source, told_same, told_set}
use Rattle.osm_run.proofs.UsesLemmas.{by_plain, opened_to-all, opened_to-sink, opened_to-skip_sink, opened_to-skip_source, opened_to-source, plain_at, sink_files, source_files, sources_no_sinks}

-- nothing is opened yet
pub none_opened : (plan : Plan) (moment : Moment) (devices : List DeviceSeen) → AllByRecursion ReadsOrWrites plan →
    length devices ≡ length plan → ((t : ℕ) → device_at devices t ≡ NoDevice) →
    WereOpened plan 0 0 moment moment devices
none_opened plan moment devices plain count none = record {
  count = count;
  each = λ t within. opened_is moment.files (nat_lt t 0) false (nat_lt t 0) false (get_or plan t []) (get_or plan t [])
      (device_at devices t) NoDevice (le-ltb t 0 (omega arith)) (le-ltb t 0 (omega arith)) refl (none t)
      (closed (get_or plan t []) (plain_at plan t plain within));
  counts = λ o n. refl;
  gave = λ n. refl;
  known = λ n. (
    λ has. subst (λ ns. Contains ns n) (sym (append-nil moment.known)) has,
    λ has. subst (λ ns. Contains ns n) (append-nil moment.known) has,
  );
  files = files_alike moment.files;
} where
  closed : (files : List File) → ReadsOrWrites files → IsOpenedWhere moment.files false false files NoDevice
  closed files plain = by_plain (λ fs. IsOpenedWhere moment.files false false fs NoDevice) refl (λ name. refl)
      (λ name. refl) files plain

  files_alike : (files : Option Files) → WhereTold files files (FilesMade [])
  files_alike None = tt
  files_alike (Some m) = (m, refl, λ n. refl)

-- the source of one task more was opened
pub source_opened : (plan : Plan) (t : ℕ) (before middle now : Moment) (devices : List DeviceSeen) (name : List ℕ)
    (source : SourceSeen) → t < length plan → source_name (get_or plan t []) ≡ Some name →
    AllByRecursion ReadsOrWrites plan → WereOpened plan t 0 before middle devices →
    SourceIsOpen name middle now source → WereOpened plan (t + 1) 0 before now (set devices t (SeenSource source))
source_opened plan t before middle now devices name source within named plain were is =
    let us : List Use = opened_to plan t 0 in
    let file : get_or plan t [] ≡ Source name ∷ [] = source_files (get_or plan t []) name named in
    let grows : opened_to plan (t + 1) 0 ≡ us ++ (t, Source name) ∷ [] = opened_to-source plan t name within file in
    let new : IsNewSource before.files name source = record {
      name_is = is.is_new.name_is;
      rest = content_before before.files middle.files us name source.value.rest (sources_no_sinks plan t) were.files
          is.is_new.rest;
      given = is.is_new.given;
      faults = is.is_new.faults;
    } in
    record {
      count = length-set devices t (SeenSource source) ∙ were.count;
      each = each_more plan before.files t 0 (t + 1) 0 t devices (set devices t (SeenSource source))
          (λ x other. below_more_other x t other) (λ x other. refl)
          (device_kept devices t (SeenSource source))
          (opened_is before.files (nat_lt t (t + 1)) true (nat_lt t 0) (nat_lt t 0) (get_or plan t [])
          (Source name ∷ []) (device_at (set devices t (SeenSource source)) t) (SeenSource source) (below_next t) refl
          file (device_got devices t (SeenSource source) (omega (arith, within, were.count))) new)
          were.each;
      counts = λ o n. is.counts o n ∙ were.counts o n;
      gave = λ n. is.gave n ∙ were.gave n;
      known = subst (λ vs. SameNames now.known (before.known ++ flat_map names_of vs)) (sym grows)
          (known_more before.known middle.known now.known us (t, Source name) name refl were.known is.known);
      files = subst (λ vs. WhereTold before.files now.files (FilesMade vs)) (sym grows)
          (told_same before.files middle.files now.files (FilesMade us) (FilesMade (us ++ (t, Source name) ∷ []))
          were.files is.files (λ m n. made_same us (t, Source name) m n refl));
    }

-- the next task has no source
pub source_skipped : (plan : Plan) (t : ℕ) (before now : Moment) (devices : List DeviceSeen) →
    t < length plan → source_name (get_or plan t []) ≡ None → AllByRecursion ReadsOrWrites plan →
    WereOpened plan t 0 before now devices → WereOpened plan (t + 1) 0 before now devices
source_skipped plan t before now devices within none plain were =
    let same : opened_to plan (t + 1) 0 ≡ opened_to plan t 0 =
    opened_to-skip_source plan t within (plain_at plan t plain within) none in
    let here : IsOpenedWhere before.files false (nat_lt t 0) (get_or plan t []) (device_at devices t) =
    subst (λ b. IsOpenedWhere before.files b (nat_lt t 0) (get_or plan t []) (device_at devices t)) (not_below t)
    (were.each t within) in
    record {
      count = were.count;
      each = each_more plan before.files t 0 (t + 1) 0 t devices devices
          (λ x other. below_more_other x t other) (λ x other. refl) (λ x other. refl)
          (subst (λ b. IsOpenedWhere before.files b (nat_lt t 0) (get_or plan t []) (device_at devices t))
          (sym (below_next t))
          (skip_source before.files (nat_lt t 0) (get_or plan t []) (device_at devices t)
          (plain_at plan t plain within) none here))
          were.each;
      counts = were.counts;
      gave = were.gave;
      known = subst (λ vs. SameNames now.known (before.known ++ flat_map names_of vs)) (sym same) were.known;
      files = subst (λ vs. WhereTold before.files now.files (FilesMade vs)) (sym same) were.files;
    }

-- the sink of one task more was opened
pub sink_opened : (plan : Plan) (i t : ℕ) (before middle now : Moment) (devices : List DeviceSeen) (name : List ℕ)
    (sink : SinkSeen) → t < length plan → sink_name (get_or plan t []) ≡ Some name →
    WereOpened plan i t before middle devices → SinkIsOpen name middle now sink →
    WereOpened plan i (t + 1) before now (set devices t (SeenSink sink))
sink_opened plan i t before middle now devices name sink within named were is =
    let us : List Use = opened_to plan i t in
    let file : get_or plan t [] ≡ Sink name ∷ [] = sink_files (get_or plan t []) name named in
    let grows : opened_to plan i (t + 1) ≡ us ++ (t, Sink name) ∷ [] = opened_to-sink plan i t name within file in
    let new : IsNewSink before.files name sink = record {
      name_is = is.is_new.name_is;
      taken = empty_before before.files middle.files us sink.taken were.files is.is_new.taken;
      faults = is.is_new.faults;
    } in
    record {
      count = length-set devices t (SeenSink sink) ∙ were.count;
      each = each_more plan before.files i t i (t + 1) t devices (set devices t (SeenSink sink))
          (λ x other. refl) (λ x other. below_more_other x t other)
          (device_kept devices t (SeenSink sink))
          (opened_is before.files (nat_lt t i) (nat_lt t i) (nat_lt t (t + 1)) true (get_or plan t [])
          (Sink name ∷ []) (device_at (set devices t (SeenSink sink)) t) (SeenSink sink) refl (below_next t)
          file (device_got devices t (SeenSink sink) (omega (arith, within, were.count))) new)
          were.each;
      counts = λ o n. is.counts o n ∙ were.counts o n;
      gave = λ n. is.gave n ∙ were.gave n;
      known = subst (λ vs. SameNames now.known (before.known ++ flat_map names_of vs)) (sym grows)
          (known_more before.known middle.known now.known us (t, Sink name) name refl were.known is.known);
      files = subst (λ vs. WhereTold before.files now.files (FilesMade vs)) (sym grows)
          (told_set before.files middle.files now.files name (FilesMade us) (FilesMade (us ++ (t, Sink name) ∷ []))
          were.files is.files (λ m n. made_more us t name m n));
    }

-- the next task has no sink
pub sink_skipped : (plan : Plan) (i t : ℕ) (before now : Moment) (devices : List DeviceSeen) →
    t < length plan → sink_name (get_or plan t []) ≡ None → AllByRecursion ReadsOrWrites plan →
    WereOpened plan i t before now devices → WereOpened plan i (t + 1) before now devices
sink_skipped plan i t before now devices within none plain were =
    let same : opened_to plan i (t + 1) ≡ opened_to plan i t =
    opened_to-skip_sink plan i t within (plain_at plan t plain within) none in
    let here : IsOpenedWhere before.files (nat_lt t i) false (get_or plan t []) (device_at devices t) =
    subst (λ b. IsOpenedWhere before.files (nat_lt t i) b (get_or plan t []) (device_at devices t)) (not_below t)
    (were.each t within) in
    record {
      count = were.count;
      each = each_more plan before.files i t i (t + 1) t devices devices
          (λ x other. refl) (λ x other. below_more_other x t other) (λ x other. refl)
          (subst (λ b. IsOpenedWhere before.files (nat_lt t i) b (get_or plan t []) (device_at devices t))
          (sym (below_next t))
          (skip_sink before.files (nat_lt t i) (get_or plan t []) (device_at devices t)
          (plain_at plan t plain within) none here))
          were.each;
      counts = were.counts;
      gave = were.gave;
      known = subst (λ vs. SameNames now.known (before.known ++ flat_map names_of vs)) (sym same) were.known;
      files = subst (λ vs. WhereTold before.files now.files (FilesMade vs)) (sym same) were.files;
    }

-- all files were opened
pub all_opened : (plan : Plan) (before now : Moment) (devices : List DeviceSeen) → AllByRecursion ReadsOrWrites plan →
    WereOpened plan (length plan) (length plan) before now devices → AreOpened plan before now devices
all_opened plan before now devices plain were = record {
  count = were.count;
  each = λ t within. opened_as (get_or plan t []) (device_at devices t) (plain_at plan t plain within)
      (opened_is before.files true (nat_lt t (length plan)) true (nat_lt t (length plan)) (get_or plan t [])
      (get_or plan t []) (device_at devices t) (device_at devices t) (sym (lt-ltb t (length plan) within))
      (sym (lt-ltb t (length plan) within)) refl refl (were.each t within));
  counts = were.counts;
  gave = were.gave;
  known = subst (λ vs. SameNames now.known (before.known ++ flat_map names_of vs)) (sym (opened_to-all plan plain))
      were.known;
  files = subst (λ vs. WhereTold before.files now.files (FilesMade vs)) (sym (opened_to-all plan plain)) were.files;
} where
  opened_as : (files : List File) (d : DeviceSeen) → ReadsOrWrites files →
      IsOpenedWhere before.files true true files d → IsOpenedAs before.files files d
  opened_as files d plain = by_plain (λ fs. IsOpenedWhere before.files true true fs d → IsOpenedAs before.files fs d)
      (as_none d) (λ name. as_source name d) (λ name. as_sink name d) files plain where
        as_none : (d : DeviceSeen) → d ≡ NoDevice → IsOpenedAs before.files [] d
        as_none d is = subst (IsOpenedAs before.files []) (sym is) tt

        as_source : (name : List ℕ) (d : DeviceSeen) → IsSourceWhere before.files true name d →
            IsOpenedAs before.files (Source name ∷ []) d
        as_source name NoDevice is = absurd is
        as_source name (SeenSource source) is = is
        as_source name (SeenSink sink) is = absurd is

        as_sink : (name : List ℕ) (d : DeviceSeen) → IsSinkWhere before.files true name d →
            IsOpenedAs before.files (Sink name ∷ []) d
        as_sink name NoDevice is = absurd is
        as_sink name (SeenSource source) is = absurd is
        as_sink name (SeenSink sink) is = is
