-- What a run of machines tells of one task, its machine and its device.
use Rattle.std.proofs.Common.{◌≡◌, ◌≢◌, ℕ, ◌+◌, ◌^◌, ◌≤◌, List, [], ◌∷◌, length, true, false, refl, sym, ap, subst, ◌∙◌, arith}
use Rattle.std.specs.Prelude.{flat_map, sum_by, if◌then◌else◌, Option, None, is_some}
use Rattle.std.specs.List.{AllByRecursion}
use Rattle.std.specs.Option.{option_map}
use Rattle.osm_area.specs.declared.area.Area.{Area}
use Rattle.osm_entity.specs.Machines.{Given}
use Rattle.osm_entity.specs.Meaning.{Meaning, finish_after, finish_read}
use Rattle.osm_entity.specs.Ports.{Ports}
use Rattle.osm_entity.specs.Readings.{Ending}
use Rattle.osm_entity.specs.Streams.{Stream}
use Rattle.osm_entity.specs.Tasks.{TaskMeaning, verdict_as}
use Rattle.osm_entity.specs.declared.stream.Want.TheVariants.{Ended}
use Rattle.osm_entity.specs.declared.verdict.Verdict.TheVariants.{Running, Write as WriteVerdict}
use Rattle.osm_host.specs.Counts.{raised}
use Rattle.osm_host.specs.Feeds.{FitsFeed}
use Rattle.osm_machine.specs.Devices.{SourceSeen}
use Rattle.osm_machine.specs.MachineDevices.{bytes_counted, device_names, has_come, sink_of}
use Rattle.osm_machine.specs.MachineKinds.{machines}
use Rattle.osm_machine.specs.ReadingFormats.{Format, limited_reading, reader_task}
use Rattle.osm_machine.specs.Sinks.{SinkSeen}
use Rattle.osm_machine.specs.declared.kind.MachineKind.{MachineKind}
use Rattle.osm_machine.proofs.MachineParts.{machines_are_lawful}
use Rattle.osm_tasks.specs.declared.kind.TaskKind.{TaskKind}
use Rattle.osm_machine.specs.TaskMeanings.{kind_meaning}
use Rattle.osm_run.specs.Command.{Command}
use Rattle.osm_run.specs.Commands.{kind_files}
use Rattle.osm_run.specs.Course.{Course, entry, meaning_of, source_limit, task_faults}
use Rattle.osm_run.specs.HowFar.{HowRead, WasUsed}
use Rattle.osm_run.specs.Plan.{File, Sink, Source, is_polygon, uses_of}
use Rattle.osm_run.specs.Went.{DeviceSeen, IsDeviceFor, NoDevice, SeenSink, SeenSource, machine_end, sink_in, source_in, verdict_faults}
use Rattle.osm_run.proofs.AlongLemmas.{pulls_of}
use Rattle.osm_run.proofs.FormatLemmas.{came_uncut, uncame_unwhole}
use Rattle.osm_run.proofs.KindLemmas.{SortOfKind, Reads, Writes, Sees}
use Rattle.osm_run.proofs.SameFirstLemmas.{SameFirst}
use Rattle.osm_run.proofs.UnwrittenLemmas.{unwritten}
use Rattle.osm_run.proofs.WentDeviceLemmas.{HasWent, IsCourseAt, end_of_none, end_of_reader, no_sink_now, no_source_now, sink_now, source_now}
use Rattle.osm_run.proofs.WentFaultLemmas.{how_read, idle_faults, reader_faults, writer_faults}
use Rattle.osm_run.proofs.WentReadLemmas.{ReadOut, read_out}

-- the device of a kind's files, by the kind's sort
pub reader_device : (files : List File) (name : List ℕ) (dev : DeviceSeen) → files ≡ Source name ∷ [] →
    IsDeviceFor files dev → (s : SourceSeen) × (dev ≡ SeenSource s)
reader_device files name NoDevice is fits =
    absurd (subst (λ fs. IsDeviceFor fs NoDevice) is fits)
reader_device files name (SeenSource s) is fits = (s, refl)
reader_device files name (SeenSink s) is fits =
    absurd (subst (λ fs. IsDeviceFor fs (SeenSink s)) is fits)

writer_device : (files : List File) (name : List ℕ) (dev : DeviceSeen) → files ≡ Sink name ∷ [] →
    IsDeviceFor files dev → (s : SinkSeen) × (dev ≡ SeenSink s)
writer_device files name NoDevice is fits =
    absurd (subst (λ fs. IsDeviceFor fs NoDevice) is fits)
writer_device files name (SeenSource s) is fits =
    absurd (subst (λ fs. IsDeviceFor fs (SeenSource s)) is fits)
writer_device files name (SeenSink s) is fits = (s, refl)

none_for : (dev : DeviceSeen) → IsDeviceFor [] dev → dev ≡ NoDevice
none_for NoDevice fits = refl
none_for (SeenSource s) fits = absurd fits
none_for (SeenSink s) fits = absurd fits

idle_device : (files : List File) (dev : DeviceSeen) → files ≡ [] → IsDeviceFor files dev → dev ≡ NoDevice
idle_device files dev is fits = none_for dev (subst (λ fs. IsDeviceFor fs dev) is fits)

-- a count that didn't stop is the number
counted_exactly : (counted size limit : ℕ) → counted ≡ raised 0 size → size ≤ limit + 65536 → limit ≡ 2 ^ 40 →
    counted ≡ size
counted_exactly counted size limit is few small = omega (arith, is, few, small)

-- the most pulls of a machine with this source
pulls_if : ℕ → Option SourceSeen → ℕ
pulls_if count source = if is_some (option_map (λ (s : SourceSeen). s.name) source) then count + 1 else 0

pub no_more : (n : ℕ) → n ≡ 0 + n
no_more n = omega arith

-- what is known of one task and its machine after a run, of a kind and a device
pub record Here {S K : Type 0} (c : Course) (m : Meaning) (t : ℕ) (kind : TaskKind) (area : Option Area)
    (dev : DeviceSeen) (made now : MachineKind S K) (given : Given (MachineKind S K)) (inputs : ℕ → Stream) :
    Type 0 where
  pub went : HasWent dev made now given
  pub at : IsCourseAt c t now given
  pub fits : IsDeviceFor (kind_files kind) dev
  pub task : machines.task now ≡ kind_meaning kind area
  pub finish : m.finish t ≡ (kind_meaning kind area).finish given.bytes given.came inputs

-- and unless memory ran out: it has ended, and says what is meant
pub record Over {S K : Type 0} (kind : TaskKind) (area : Option Area) (now : MachineKind S K)
    (given : Given (MachineKind S K)) (inputs : ℕ → Stream) : Type 0 where
  pub took : Ports
  pub gave : Ports
  pub stands : machines.stands now took gave given
  pub ended : machines.wanted now ≡ Ended
  pub judged : machines.verdict now ≢ WriteVerdict → machines.verdict now
      ≡ verdict_as (kind_meaning kind area).limit (length given.bytes)
      ((kind_meaning kind area).finish given.bytes given.came inputs)

module _ {S K : Type 0} (c : Course) (m : Meaning) (t : ℕ) (kind : TaskKind) (area : Option Area)
    (dev : DeviceSeen) (made now : MachineKind S K) (given : Given (MachineKind S K)) (inputs : ℕ → Stream)
    (here : Here c m t kind area dev made now given inputs) where
  -- a machine without a sink has none after the run
  sinkless_now : sink_in dev ≡ None → sink_of now ≡ None
  sinkless_now none = no_sink_now made now given dev here.went none

  -- ---- the entry of a reader

  counted_at : (s : SourceSeen) → dev ≡ SeenSource s → (kind_meaning kind area).limit ≡ 2 ^ 40 →
      (bytes_counted now ≡ length (c.given t)) × (has_come now ≡ c.clean t)
  counted_at s is limit =
      let there = source_now made now given s (subst (λ d. HasWent d made now given) is here.went) in
      let told = there.2 in (
        counted_exactly (bytes_counted now) (length given.bytes) (machines.task now).limit told.counted_is told.few
            (ap (λ (task : TaskMeaning). task.limit) here.task ∙ limit) ∙ ap (λ bytes. length bytes)
            (sym here.at.given_is),
        sym told.clean_is ∙ sym here.at.clean_is,
      )

  pub end_is : SortOfKind kind area → machine_end (t, now) ≡ flat_map (entry c) (uses_of (t, kind_files kind))
  end_is (Reads format name files meant) =
      let d = reader_device (kind_files kind) name dev files here.fits in
      let there = source_now made now given d.0 (subst (λ d. HasWent d made now given) d.1 here.went) in
      let counted = counted_at d.0 d.1 (ap (λ (task : TaskMeaning). task.limit) meant) in
      end_of_reader t now there.0 there.1
      ∙ ap (λ given. record { task = t; given = given; clean = has_come now } ∷ []) counted.0
      ∙ ap (λ clean. record { task = t; given = length (c.given t); clean = clean } ∷ []) counted.1
      ∙ ap (λ fs. flat_map (entry c) (uses_of (t, fs))) (sym files)
  end_is (Writes form name files meant) =
      let d = writer_device (kind_files kind) name dev files here.fits in
      end_of_none t now (no_source_now made now given dev here.went (ap source_in d.1))
      ∙ ap (λ fs. flat_map (entry c) (uses_of (t, fs))) (sym files)
  end_is (Sees none sees) =
      end_of_none t now (no_source_now made now given dev here.went
      (ap source_in (idle_device (kind_files kind) dev none here.fits)))
      ∙ ap (λ fs. flat_map (entry c) (uses_of (t, fs))) (sym none)

  module _ (over : Over kind area now given inputs) where
    unwritten_now : sink_in dev ≡ None → machines.verdict now ≢ WriteVerdict
    unwritten_now none = unwritten now over.took over.gave given over.stands over.ended (sinkless_now none)

    -- how a reader's source was read
    pub read_at : (format : Format) (s : SourceSeen) → dev ≡ SeenSource s → kind_meaning kind area
        ≡ reader_task format source_limit →
        HowRead c t source_limit (m.finish t)
    read_at format s is meant =
        let there = source_now made now given s (subst (λ d. HasWent d made now given) is here.went) in
        let out : ReadOut now given = read_out now there.0 over.took over.gave given there.1 over.stands over.ended in
        let ending : Ending = (limited_reading format source_limit given.bytes given.came).ending in
        let finish : m.finish t ≡ finish_read ending =
        here.finish ∙ ap (λ (task : TaskMeaning). task.finish given.bytes given.came inputs) meant in
        let task : machines.task now ≡ reader_task format source_limit = here.task ∙ meant in
        how_read c t source_limit out.feed ending (m.finish t) finish
        (subst (λ bytes. FitsFeed out.feed source_limit (length bytes)) (sym here.at.given_is)
        (subst (λ limit. FitsFeed out.feed limit (length given.bytes)) (ap (λ (task : TaskMeaning). task.limit) task)
        out.fits))
        (here.at.clean_is ∙ out.clean) (here.at.pulls ∙ out.failed)
        (λ uncame. uncame_unwhole format source_limit given.bytes given.came (sym here.at.clean_is ∙ uncame))
        (λ cut. out.stopped inputs
        (ap (λ (task : TaskMeaning). task.finish given.bytes given.came inputs) task ∙ ap finish_read cut))

    -- the faults of a task begin as the verdict of its machine says
    pub first_is : SortOfKind kind area → SameFirst (task_faults m c (t, kind_files kind)) (verdict_faults
        (t, machines.verdict now))
    first_is (Reads format name files meant) =
        let d = reader_device (kind_files kind) name dev files here.fits in
        let ending : Ending = (limited_reading format source_limit given.bytes given.came).ending in
        let verdict : machines.verdict now ≡ verdict_as source_limit (length (c.given t)) (finish_read ending) =
        over.judged (unwritten_now (ap sink_in d.1))
        ∙ ap (λ (task : TaskMeaning). verdict_as task.limit (length given.bytes)
        (task.finish given.bytes given.came inputs)) meant
        ∙ ap (λ bytes. verdict_as source_limit (length bytes) (finish_read ending)) (sym here.at.given_is) in
        subst (λ fs. SameFirst (task_faults m c (t, fs)) (verdict_faults (t, machines.verdict now))) (sym files)
        (reader_faults c m t name ending (machines.verdict now)
        (here.finish ∙ ap (λ (task : TaskMeaning). task.finish given.bytes given.came inputs) meant) verdict
        (λ uncame. uncame_unwhole format source_limit given.bytes given.came (sym here.at.clean_is ∙ uncame))
        (λ came. came_uncut format source_limit given.bytes given.came (sym here.at.clean_is ∙ came)))
    first_is (Writes form name files meant) =
        let d = writer_device (kind_files kind) name dev files here.fits in
        let there = sink_now made now given d.0 (subst (λ d. HasWent d made now given) d.1 here.went) in
        let told = there.2 in
        let finish : (kind_meaning kind area).finish given.bytes given.came inputs ≡ finish_after (inputs 0).end =
        ap (λ (task : TaskMeaning). task.finish given.bytes given.came inputs) meant in
        let running : machines.verdict now ≢ Running =
        λ is. ((machines_are_lawful {S = S} {K = K}).running now over.took over.gave given over.stands).0 is
        over.ended in
        subst (λ fs. SameFirst (task_faults m c (t, fs)) (verdict_faults (t, machines.verdict now))) (sym files)
        (writer_faults c m t (kind_meaning kind area).limit (length given.bytes) name (inputs 0).end
        (machines.verdict now) (here.finish ∙ finish)
        (λ refused. told.blames (sym here.at.puts ∙ refused) running)
        (λ unrefused. over.judged (λ blames. absurd (let no : true ≡ false =
        sym (told.blamed blames) ∙ sym here.at.puts ∙ unrefused in cc))
        ∙ ap (verdict_as (kind_meaning kind area).limit (length given.bytes)) finish))
    first_is (Sees idle sees) =
        idle_faults c m t (kind_meaning kind area).limit (length given.bytes) (kind_files kind)
        ((kind_meaning kind area).finish given.bytes given.came inputs) (machines.verdict now) idle here.finish
        (sees.uncut given.bytes given.came inputs)
        (over.judged (unwritten_now (ap sink_in (idle_device (kind_files kind) dev idle here.fits))))

  -- a machine with a source has counted its bytes
  pub counted_by : SortOfKind kind area → (s : SourceSeen) → dev ≡ SeenSource s →
      (bytes_counted now ≡ length (c.given t)) × (has_come now ≡ c.clean t)
  counted_by (Reads format name files meant) s is =
      counted_at s is (ap (λ (task : TaskMeaning). task.limit) meant)
  counted_by (Writes form name files meant) s is =
      let d = writer_device (kind_files kind) name dev files here.fits in
      absurd (let no : SeenSource s ≡ SeenSink d.0 = sym is ∙ d.1 in cc)
  counted_by (Sees idle sees) s is =
      absurd (let no : SeenSource s ≡ NoDevice = sym is ∙ idle_device (kind_files kind) dev idle here.fits in cc)

  -- the most pulls of a task are those of its entry
  pub pulls_is : SortOfKind kind area →
      (if is_some (device_names made).source then length given.bytes + 1 else 0)
      ≡ sum_by pulls_of (flat_map (entry c) (uses_of (t, kind_files kind)))
  unfolding pulls_if
  pulls_is (Reads format name files meant) =
      let d = reader_device (kind_files kind) name dev files here.fits in
      ap (pulls_if (length given.bytes)) (here.went.source ∙ ap source_in d.1)
      ∙ ap (λ bytes. length bytes + 1) (sym here.at.given_is)
      ∙ no_more (length (c.given t) + 1)
      ∙ ap (λ fs. sum_by pulls_of (flat_map (entry c) (uses_of (t, fs)))) (sym files)
  pulls_is (Writes form name files meant) =
      let d = writer_device (kind_files kind) name dev files here.fits in
      ap (pulls_if (length given.bytes)) (here.went.source ∙ ap source_in d.1)
      ∙ ap (λ fs. sum_by pulls_of (flat_map (entry c) (uses_of (t, fs)))) (sym files)
  pulls_is (Sees none sees) =
      ap (pulls_if (length given.bytes))
      (here.went.source ∙ ap source_in (idle_device (kind_files kind) dev none here.fits))
      ∙ ap (λ fs. sum_by pulls_of (flat_map (entry c) (uses_of (t, fs)))) (sym none)

-- how the files of a task were used, where its source was read
pub used_by : (k : Command) (c : Course) (t : ℕ) (kind : TaskKind) (area : Option Area) → SortOfKind kind area →
    ((format : Format) (name : List ℕ) → kind_files kind ≡ Source name ∷ [] →
    kind_meaning kind area ≡ reader_task format source_limit → HowRead c t source_limit ((meaning_of k c).finish t)) →
    AllByRecursion (λ file. is_polygon (t, file) ≡ false → WasUsed k c (t, file)) (kind_files kind)
used_by k c t kind area (Reads format name files meant) read =
    subst (AllByRecursion (λ file. is_polygon (t, file) ≡ false → WasUsed k c (t, file))) (sym files)
    (λ not. read format name files meant, tt)
used_by k c t kind area (Writes form name files meant) read =
    subst (AllByRecursion (λ file. is_polygon (t, file) ≡ false → WasUsed k c (t, file))) (sym files) (λ not. tt, tt)
used_by k c t kind area (Sees none sees) read =
    subst (AllByRecursion (λ file. is_polygon (t, file) ≡ false → WasUsed k c (t, file))) (sym none) tt
