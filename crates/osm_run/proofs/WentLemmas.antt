-- A run of the machines of a graph's tasks has a course of the graph's command.
use Rattle.std.proofs.Common.{◌≡◌, ℕ, ◌+◌, ◌*◌, ◌<◌, ◌≤◌, List, [], ◌++◌, length, map, take, Bool, false, refl, sym, ap, subst, ◌∙◌, arith}
use Rattle.std.specs.Prelude.{get_or, flat_map, sum_by, if◌then◌else◌, is_some}
use Rattle.std.specs.List.{AllByRecursion, enumerate_from}
use Rattle.std.proofs.lemmas.List.{get_or-map, get_or_default}
use Rattle.osm_entity.specs.Machines.{Given, WroteAll, WrotePrefix}
use Rattle.osm_entity.specs.Meaning.{Meaning}
use Rattle.osm_entity.specs.Streams.{Stream}
use Rattle.osm_entity.specs.Tasks.{TaskMeaning, verdict_as}
use Rattle.osm_graph.specs.Graphs.{GraphValue, IsGraph}
use Rattle.osm_host.specs.declared.outside.Op.{Op}
use Rattle.osm_host.specs.declared.outside.Op.TheVariants.{Open, Make, Pull, Put, Keep}
use Rattle.osm_machine.specs.Devices.{SourceSeen}
use Rattle.osm_machine.specs.MachineDevices.{bytes_counted, device_names, has_come, has_pull_failed, was_put_refused}
use Rattle.osm_machine.specs.MachineKinds.{machines}
use Rattle.osm_machine.specs.declared.kind.MachineKind.{MachineKind}
use Rattle.osm_machine.specs.declared.kind.MachineKind.TheVariants.{Nothing}
use Rattle.osm_machine.proofs.DeviceLemmas.{devices_told}
use Rattle.osm_net.specs.Histories.{History, gave_by, most_pulls, took_by}
use Rattle.osm_net.specs.Meaning.{rules_of, sum_below}
use Rattle.osm_net.specs.Runs.{AreCountedRun, AreRun, IsMeant, KeepNames, course_of}
use Rattle.osm_run.specs.Commands.{Areas, command_with, courses_of, inputs_at, kind_at, kind_files, plan_of, streams_of, task_meant}
use Rattle.osm_run.specs.Course.{Course, entries, entry, first_fault, meaning_of, source_limit, task_faults}
use Rattle.osm_run.specs.HowFar.{WasUsed}
use Rattle.osm_run.specs.Plan.{Plan, is_polygon, numbered, openings, uses, uses_of}
use Rattle.osm_run.specs.Went.{AreDevicesFor, AreMachinesOf, AreStepsOf, DeviceSeen, DeviceTells, HaveRun, NoDevice, SeenSource, device_at, device_of, devices_of, machine_end, machine_ends, messages_by, most_pulls_of, verdict_faults, with_keeps}
use Rattle.osm_run.proofs.AlongLemmas.{along_all, ends_along, faults_along, pulls_along, pulls_of}
use Rattle.osm_run.proofs.GraphMeaningLemmas.{meant_alike, streams_are_meant}
use Rattle.osm_run.proofs.KindLemmas.{SameOf, same_cut, sort_of_kind}
use Rattle.osm_run.proofs.PlaceLemmas.{all_of_files, files_at, length_plan}
use Rattle.osm_run.proofs.SameFirstLemmas.{SameFirst, same_before}
use Rattle.osm_run.proofs.WentDeviceLemmas.{task_tells}
use Rattle.osm_run.proofs.WentTaskLemmas.{Here, Over, counted_by, end_is, first_is, no_more, pulls_is, read_at, reader_device, used_by}

-- which calls failed while the tasks ran, as the machines say that they leave
abbrev failed_by : {S K : Type 0} → (ℕ → MachineKind S K) → Op → ℕ → Bool
failed_by now Open t = false
failed_by now Make t = false
failed_by now Pull t = has_pull_failed (now t)
failed_by now Put t = was_put_refused (now t)
failed_by now Keep t = false

-- the course of a run, by what came of the sources and the machines that it leaves
abbrev went_course : {S K : Type 0} → Plan → (ℕ → Given (MachineKind S K)) → (ℕ → MachineKind S K) → Course
went_course plan given now = record {
  opened = openings plan;
  given = λ t. (given t).bytes;
  clean = λ t. (given t).came;
  failed = failed_by now;
  spilled = λ t. false;
}

-- what stands for a machine where there is none
abbrev no_machine : {S K : Type 0} → MachineKind S K
no_machine = Nothing (record { closed = false })

module _ {S K : Type 0} (g : GraphValue) (areas : Areas) (graph : IsGraph g) (opened : List DeviceSeen)
    (fits : AreDevicesFor g.tasks opened) (before after : List (MachineKind S K))
    (made : AreMachinesOf g.tasks areas opened before) (memory : Bool)
    (run : AreRun machines g.pipes before after memory) (names : KeepNames device_names before after) where
  abbrev history : History (MachineKind S K)
  history = run.history no_machine

  abbrev now : ℕ → MachineKind S K
  now t = get_or after t no_machine

  abbrev read_bytes : ℕ → List ℕ
  read_bytes t = take source_limit (history.given t).bytes

  abbrev came : ℕ → Bool
  came t = (history.given t).came

  abbrev meant_streams : ℕ → Stream
  meant_streams = streams_of g areas read_bytes came

  abbrev base : Course
  base = went_course (plan_of g.tasks) history.given now

  known_before : (t : ℕ) → t < length g.tasks → t < length before
  known_before t known = omega (arith, known, made.count)

  known_after : (t : ℕ) → t < length g.tasks → t < length after
  known_after t known = omega (arith, known, made.count, run.count)

  task_is : (t : ℕ) → t < length g.tasks → machines.task (now t) ≡ task_meant g.tasks areas t
  task_is t known = run.same t no_machine (known_before t known) ∙ (made.each t no_machine known).task_is

  -- the streams of the graph by the course are what the run means
  streams_meant : IsMeant machines g.pipes now history meant_streams
  unfolding SameOf
  streams_meant = meant_alike g graph (rules_of (courses_of g.tasks areas read_bytes came))
      (rules_of (course_of machines now history))
      (λ t f port known. (same_cut (kind_at g.tasks t) (areas t) (history.given t).bytes (came t) f).0 port
      ∙ ap (λ (task : TaskMeaning). task.gives (history.given t).bytes (came t) f port) (sym (task_is t known)))
      meant_streams (streams_are_meant g graph areas read_bytes came)

  module _ (keeps : ℕ → Bool) where
    abbrev course : Course
    course = with_keeps keeps base

    abbrev meaning : Meaning
    meaning = meaning_of (command_with g areas) course

    here_at : (t : ℕ) → t < length g.tasks → Here course meaning t (kind_at g.tasks t) (areas t) (device_at opened t)
        (get_or before t no_machine) (now t) (history.given t) (inputs_at g areas read_bytes came t)
    unfolding SameOf
    here_at t known = record {
      went = record {
        made_is = run.made t no_machine (known_before t known);
        source = (made.each t no_machine known).source_is;
        sink = (made.each t no_machine known).sink_is;
        told = devices_told (now t) (history.given t) ((run.run no_machine).devices t (known_before t known));
        names = names t no_machine (known_before t known);
      };
      at = record { given_is = refl; clean_is = refl; pulls = refl; puts = refl };
      fits = fits.each t known;
      task = task_is t known;
      finish = (same_cut (kind_at g.tasks t) (areas t) (history.given t).bytes (came t)
          (inputs_at g areas read_bytes came t)).1;
    }

    over_at : memory ≡ false → (t : ℕ) → t < length g.tasks →
        Over (kind_at g.tasks t) (areas t) (now t) (history.given t) (inputs_at g areas read_bytes came t)
    over_at there t known = record {
      took = took_by g.pipes history t;
      gave = gave_by g.pipes history t;
      stands = ((run.run no_machine).stand there).stand t (known_before t known);
      ended = (run.run no_machine).ended there t (known_before t known);
      judged = λ un. ((run.run no_machine).whole there meant_streams streams_meant).judged t (known_before t known) un
          ∙ ap (λ (task : TaskMeaning). verdict_as task.limit (length (history.given t).bytes)
          (task.finish (history.given t).bytes (came t) (inputs_at g areas read_bytes came t))) (task_is t known);
    }

    told_at : (t : ℕ) → t < length g.tasks →
        DeviceTells course meaning memory t (device_at opened t) (device_at (devices_of after) t)
    told_at t known =
        let here = here_at t known in
        subst (DeviceTells course meaning memory t (device_at opened t))
        (sym (get_or-map device_of after t no_machine NoDevice (known_after t known)))
        (task_tells (get_or before t no_machine) (now t) (history.given t) course meaning memory t here.at
        (subst (λ (task : TaskMeaning). WrotePrefix (machines.wrote (now t)) (task.text
        (inputs_at g areas read_bytes came t)))
        (task_is t known)
        (((run.run no_machine).so_far meant_streams streams_meant).wrote t (known_before t known)))
        (λ there un. subst
        (λ (task : TaskMeaning). WroteAll (machines.wrote (now t)) (task.text (inputs_at g areas read_bytes came t)))
        (task_is t known)
        (((run.run no_machine).whole there meant_streams streams_meant).wrote t (known_before t known) un))
        (device_at opened t) here.went)

    lengths : length after ≡ length (plan_of g.tasks)
    lengths = run.count ∙ made.count ∙ sym (length_plan g.tasks)

    in_plan : (t : ℕ) → t < length (plan_of g.tasks) → t < length g.tasks
    in_plan t known = omega (arith, known, length_plan g.tasks)

    ends_are : machine_ends after ≡ entries (plan_of g.tasks) course
    ends_are = ends_along course 0 after (plan_of g.tasks)
        (along_all (λ t m files. machine_end (t, m) ≡ flat_map (entry course) (uses_of (t, files))) no_machine [] after
        (plan_of g.tasks) lengths
        (λ t known. subst (λ files. machine_end (t, now t) ≡ flat_map (entry course) (uses_of (t, files)))
        (sym (files_at g.tasks t (in_plan t known)))
        (end_is course meaning t (kind_at g.tasks t) (areas t) (device_at opened t) (get_or before t no_machine) (now t)
        (history.given t) (inputs_at g areas read_bytes came t) (here_at t (in_plan t known))
        (sort_of_kind (kind_at g.tasks t) (areas t)))))

    first_at : memory ≡ false → (t : ℕ) → t < length g.tasks →
        SameFirst (task_faults meaning course (t, kind_files (kind_at g.tasks t))) (verdict_faults
        (t, machines.verdict (now t)))
    first_at there t known =
        first_is course meaning t (kind_at g.tasks t) (areas t) (device_at opened t) (get_or before t no_machine)
        (now t) (history.given t) (inputs_at g areas read_bytes came t) (here_at t known) (over_at there t known)
        (sort_of_kind (kind_at g.tasks t) (areas t))

    faults_begin : memory ≡ false → SameFirst (flat_map (task_faults meaning course) (numbered (plan_of g.tasks)))
        (flat_map verdict_faults (enumerate_from 0 (map machines.verdict after)))
    faults_begin there = faults_along course meaning 0 after (plan_of g.tasks)
        (along_all (λ t m files. SameFirst (task_faults meaning course (t, files)) (verdict_faults
        (t, machines.verdict m)))
        no_machine [] after (plan_of g.tasks) lengths
        (λ t known. subst (λ files. SameFirst (task_faults meaning course (t, files))
        (verdict_faults (t, machines.verdict (now t)))) (sym (files_at g.tasks t (in_plan t known)))
        (first_at there t (in_plan t known))))

    faults_are : memory ≡ false → (more : List _) → first_fault
        (flat_map (task_faults meaning course) (numbered (plan_of g.tasks)) ++ more)
        ≡ first_fault (flat_map verdict_faults (enumerate_from 0 (map machines.verdict after)) ++ more)
    faults_are there more = same_before (flat_map (task_faults meaning course) (numbered (plan_of g.tasks)))
        (flat_map verdict_faults (enumerate_from 0 (map machines.verdict after))) more (faults_begin there)

    used_are : memory ≡ false → AllByRecursion
        (λ u. is_polygon u ≡ false → WasUsed (command_with g areas) course u) (uses (plan_of g.tasks))
    used_are there = all_of_files (λ u. is_polygon u ≡ false → WasUsed (command_with g areas) course u) g.tasks
        (λ t known. used_by (command_with g areas) course t (kind_at g.tasks t) (areas t)
        (sort_of_kind (kind_at g.tasks t) (areas t))
        (λ format name files meant.
        let d = reader_device (kind_files (kind_at g.tasks t)) name (device_at opened t) files (fits.each t known) in
        read_at course meaning t (kind_at g.tasks t) (areas t) (device_at opened t) (get_or before t no_machine) (now t)
        (history.given t) (inputs_at g areas read_bytes came t) (here_at t known)
        (over_at there t known) format d.0 d.1 meant))

    counted_are : (t : ℕ) (d : MachineKind S K) (source : SourceSeen) → t < length g.tasks →
        device_at opened t ≡ SeenSource source →
        (bytes_counted (get_or after t d) ≡ length (course.given t)) × (has_come (get_or after t d) ≡ course.clean t)
    counted_are t d source known is =
        subst (λ m. (bytes_counted m ≡ length (course.given t)) × (has_come m ≡ course.clean t))
        (get_or_default after t no_machine d (known_after t known))
        (counted_by course meaning t (kind_at g.tasks t) (areas t) (device_at opened t) (get_or before t no_machine)
        (now t)
        (history.given t) (inputs_at g areas read_bytes came t) (here_at t known) (sort_of_kind
        (kind_at g.tasks t) (areas t)) source is)

    have_run : HaveRun g areas opened after memory course
    have_run = record {
      count = run.count ∙ made.count;
      all_opened = refl;
      opens = λ t. refl;
      makes = λ t. refl;
      spilled = λ t. refl;
      told = told_at;
      counted = counted_are;
      ends = ends_are;
      faults = faults_are;
      used = used_are;
    }

    -- the most pulls of the machines are those of the entries
    pulls_are : most_pulls (length before) (λ t. is_some (device_names (get_or before t no_machine)).source) history
        ≡ most_pulls_of (entries (plan_of g.tasks) course)
    pulls_are =
        let f : ℕ → ℕ = λ t. if is_some (device_names (get_or before t no_machine)).source
        then length (history.given t).bytes + 1 else 0 in
        let tasks : length before ≡ 0 + length (plan_of g.tasks) = omega (arith, made.count, length_plan g.tasks) in
        let pulls : ℕ = sum_by pulls_of (flat_map (entry course) (uses (plan_of g.tasks))) in
        ap (sum_below f) tasks
        ∙ pulls_along f course 0 after (plan_of g.tasks)
        (along_all (λ t m files. f t ≡ sum_by pulls_of (flat_map (entry course) (uses_of (t, files))))
        no_machine [] after (plan_of g.tasks) lengths
        (λ t known. subst (λ files. f t ≡ sum_by pulls_of (flat_map (entry course) (uses_of (t, files))))
        (sym (files_at g.tasks t (in_plan t known)))
        (pulls_is course meaning t (kind_at g.tasks t) (areas t) (device_at opened t) (get_or before t no_machine)
        (now t) (history.given t) (inputs_at g areas read_bytes came t) (here_at t (in_plan t known))
        (sort_of_kind (kind_at g.tasks t) (areas t)))))
        ∙ sym (no_more pulls)

-- ---- what the composition of a run builds on

-- a run of the machines of a graph has a course of its command
pub tasks_have_run : {S K : Type 0} (g : GraphValue) (areas : Areas) (opened : List DeviceSeen)
    (before after : List (MachineKind S K)) (memory : Bool) → IsGraph g → AreDevicesFor g.tasks opened →
    AreMachinesOf g.tasks areas opened before →
    AreRun machines g.pipes before after memory → KeepNames device_names before after →
    (c : Course) × ((keeps : ℕ → Bool) → HaveRun g areas opened after memory (with_keeps keeps c))
tasks_have_run g areas opened before after memory graph fits made run names = (
  base g areas graph opened fits before after made memory run names,
  have_run g areas graph opened fits before after made memory run names,
)

-- and its steps are counted
pub counted_tasks_have_run : {S K : Type 0} (g : GraphValue) (areas : Areas) (opened : List DeviceSeen)
    (before after : List (MachineKind S K)) (memory : Bool) (steps : ℕ) → IsGraph g → AreDevicesFor g.tasks opened →
    AreMachinesOf g.tasks areas opened before →
    AreCountedRun machines (λ m. is_some (device_names m).source) g.pipes before after memory steps →
    KeepNames device_names before after →
    (c : Course) × ((keeps : ℕ → Bool) → HaveRun g areas opened after memory (with_keeps keeps c)
    × AreStepsOf (command_with g areas) (with_keeps keeps c) memory steps)
counted_tasks_have_run g areas opened before after memory steps graph fits made counted names =
    let run = counted.run in (
      base g areas graph opened fits before after made memory run names,
      λ keeps. (
        have_run g areas graph opened fits before after made memory run names keeps,
        record {
          least = λ there. counted.least there no_machine
              (meant_streams g areas graph opened fits before after made memory run names)
              (streams_meant g areas graph opened fits before after made memory run names);
          most = subst (λ pulls. steps ≤ 2 * messages_by (command_with g areas) (with_keeps keeps
              (base g areas graph opened fits before after made memory run names)) + pulls)
              (pulls_are g areas graph opened fits before after made memory run names keeps)
              (counted.most no_machine (meant_streams g areas graph opened fits before after made memory run names)
              (streams_meant g areas graph opened fits before after made memory run names));
        },
      ),
    )
