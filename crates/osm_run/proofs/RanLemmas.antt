-- The run of a graph's command, from what opening its files, running its machines and closing its files tell.
use Rattle.std.proofs.Common.{◌≡◌, ℕ, ◌+◌, ◌*◌, ◌<◌, ◌≤◌, List, [], ◌∷◌, ◌++◌, length, Bool, true, false, ◌||◌, refl, sym, ap, subst, ◌∙◌, inl, arith}
use Rattle.std.specs.Prelude.{get_or, flat_map, Option, Some, None}
use Rattle.std.specs.List.{AllByRecursion, enumerate_from}
use Rattle.osm_entity.specs.Meaning.{Meaning}
use Rattle.osm_entity.specs.declared.verdict.Verdict.{Verdict}
use Rattle.osm_graph.specs.Graphs.{GraphValue, IsGraph, most_joined_tasks}
use Rattle.osm_host.specs.Contents.{Files}
use Rattle.osm_host.specs.Moments.{Moment}
use Rattle.osm_machine.specs.MachineKinds.{machines}
use Rattle.osm_machine.specs.declared.kind.MachineKind.{MachineKind}
use Rattle.osm_report.specs.declared.fault.Fault.{Fault}
use Rattle.osm_report.specs.declared.fault.Fault.TheVariants.{Memory}
use Rattle.osm_run.specs.Closed.{AreClosed, DevicesTell, FilesKept}
use Rattle.osm_run.specs.Command.{Command}
use Rattle.osm_run.specs.Commands.{Areas, command_with, plan_of}
use Rattle.osm_run.specs.Course.{Course, entries, first_fault, keep_faults, meaning_of, opening_faults, run_faults}
use Rattle.osm_run.specs.HowFar.{FilesAfter, FilesAtMemory, HowFar, OutOfMemory, Ran, Stopped, WasUsed, WhereTold}
use Rattle.osm_run.specs.Leaving.{AreRanMachines}
use Rattle.osm_run.specs.OnHost.{IsCourse}
use Rattle.osm_run.specs.Headline.{RanItsTasks}
use Rattle.osm_run.specs.Opened.{IsIdleRun, course_at_rest}
use Rattle.osm_run.specs.Plan.{Plan, Use, is_polygon, openings, uses}
use Rattle.osm_run.specs.Went.{AreStepsOf, DeviceSeen, device_of, DeviceTells, HaveRun, NoDevice, SeenSink, SeenSource, device_at, messages_by, most_pulls_of, verdict_faults, with_keeps}
use Rattle.osm_run.specs.WordsRun.{IsCountedRun, TakesSteps}
use Rattle.osm_run.specs.declared.closing.Kept.{Kept}
use Rattle.osm_run.specs.declared.status.SourceEnd.{SourceEnd}
use Rattle.osm_run.specs.declared.status.Status.{Status}
use Rattle.osm_run.proofs.CleanLemmas.{told_more}
use Rattle.osm_run.proofs.EachLemmas.{all_both}
use Rattle.osm_run.proofs.HeldLemmas.{files_after_tasks, files_at_memory, nothing_failed_to_open, uses_below}
use Rattle.osm_run.proofs.LeavingLemmas.{map_length}
use Rattle.osm_run.proofs.OpenFilesLemmas.{as_many_entries}
use Rattle.osm_run.proofs.PlaceLemmas.{length_plan}

-- what a device tells of a course doesn't depend on the keeps
tells_alike : (keeps : ℕ → Bool) (c : Course) (m : Meaning) (memory : Bool) (t : ℕ) (opened now : DeviceSeen) →
    DeviceTells (with_keeps keeps c) m memory t opened now → DeviceTells c m memory t opened now
tells_alike keeps c m memory t NoDevice NoDevice told = tt
tells_alike keeps c m memory t NoDevice (SeenSource now) told = told
tells_alike keeps c m memory t NoDevice (SeenSink now) told = told
tells_alike keeps c m memory t (SeenSource opened) NoDevice told = told
tells_alike keeps c m memory t (SeenSource opened) (SeenSource now) told =
    record { name = told.name; gave = told.gave; ended = told.ended; pulls = told.pulls }
tells_alike keeps c m memory t (SeenSource opened) (SeenSink now) told = told
tells_alike keeps c m memory t (SeenSink opened) NoDevice told = told
tells_alike keeps c m memory t (SeenSink opened) (SeenSource now) told = told
tells_alike keeps c m memory t (SeenSink opened) (SeenSink now) told =
    record { name = told.name; puts = told.puts; told = told.told; took = told.took; all = told.all }

-- what holds of each element where a premise does, and the premise
all_given : {X : Type 0} (P Q : X → Type 0) (xs : List X) → AllByRecursion (λ x. P x → Q x) xs → AllByRecursion P xs →
    AllByRecursion Q xs
all_given P Q xs = all_both (λ x. P x → Q x) P Q (λ x more here. more here) xs

neither : (a b : Bool) → (a || b) ≡ false → a ≡ false
neither true b is = is
neither false b is = refl

module _ {S K : Type 0} (g : GraphValue) (areas : Areas) (before after : Moment) (opened now : List DeviceSeen)
    (verdicts : List Verdict) (ends : List SourceEnd) (memory : Bool) (steps : ℕ) (ms : List (MachineKind S K))
    (ran : AreRanMachines g areas opened now verdicts ends memory steps ms) where
  -- the devices that the machines leave tell of the course of their run
  pub devices_tell :
      DevicesTell (plan_of g.tasks) ran.course (meaning_of (command_with g areas) ran.course) memory opened now
  devices_tell =
      let went = (ran.went (λ t. false)).0 in
      record {
        count = ap length ran.left.devices_are ∙ map_length device_of ms ∙ went.count ∙ sym (length_plan g.tasks);
        all_opened = went.all_opened;
        opens = went.opens;
        makes = went.makes;
        told = λ t known.
            tells_alike (λ t. false) ran.course (meaning_of (command_with g areas) ran.course) memory t
            (device_at opened t) (device_at now t)
            (subst (λ ds. DeviceTells (with_keeps (λ t. false) ran.course)
            (meaning_of (command_with g areas) ran.course) memory t (device_at opened t) (device_at ds t))
            (sym ran.left.devices_are) (went.told t (omega (arith, known, length_plan g.tasks))));
      }

  -- there are as many entries as when the files were opened
  pub ends_as_many : (old : List SourceEnd) → old ≡ entries (plan_of g.tasks) (course_at_rest []) →
      length old ≡ length ends
  ends_as_many old is =
      ap length is
      ∙ as_many_entries (plan_of g.tasks) (course_at_rest []) (with_keeps (λ t. false) ran.course)
      ∙ sym (ap length (ran.left.ends_are ∙ (ran.went (λ t. false)).0.ends))

  -- there are few verdicts
  pub few_verdicts : IsGraph g → length verdicts ≤ most_joined_tasks
  few_verdicts graph =
      let as_many : length verdicts ≡ length ms = ap length ran.left.verdicts_are ∙ map_length machines.verdict ms in
      let count : length ms ≡ length g.tasks = (ran.went (λ t. false)).0.count in
      let few : length g.tasks ≤ most_joined_tasks = graph.few_tasks in
      omega (arith, as_many, count, few)

  module _ (kept : Kept) (status : Status) (plain : AllByRecursion (λ u. is_polygon u ≡ false) (uses (plan_of g.tasks)))
      (closed : AreClosed (plan_of g.tasks) ran.course (meaning_of (command_with g areas) ran.course) memory before after
      kept) (ends_are : status.ends ≡ ends) where
    abbrev course : Course
    course = with_keeps closed.keeps ran.course

    went : HaveRun g areas opened ms memory course
    went = (ran.went closed.keeps).0

    counted : AreStepsOf (command_with g areas) course memory steps
    counted = (ran.went closed.keeps).1

    ends_of : status.ends ≡ entries (plan_of g.tasks) course
    ends_of = ends_are ∙ ran.left.ends_are ∙ went.ends

    few_steps : steps ≤ 2 * messages_by (command_with g areas) course + most_pulls_of status.ends
    few_steps = subst (λ es. steps ≤ 2 * messages_by (command_with g areas) course + most_pulls_of es) (sym ends_of) counted.most

    -- out of memory
    pub ran_out : status.fault ≡ Memory → IsCountedRun (command_with g areas) before after status steps
    ran_out fault = record {
      run = record {
        course = course;
        is_course = closed.is_course;
        how_far = OutOfMemory (record {
          place = length g.tasks;
          fault = fault;
          ends = inl ends_of;
          files = told_more before.files after.files
              (FilesKept (plan_of g.tasks) course (meaning_of (command_with g areas) course) (memory || kept.memory))
              (FilesAtMemory (command_with g areas) course (length g.tasks)) closed.files
              (λ was then held. files_at_memory (command_with g areas) course (memory || kept.memory) (length g.tasks) was
              then went.all_opened (uses_below g.tasks) held);
        });
      };
      counted = few_steps;
    }

    -- and where memory was there
    abbrev keeps : List Fault
    keeps = flat_map (keep_faults course) (uses (plan_of g.tasks))

    fault_of : memory ≡ false →
        status.fault ≡ first_fault (flat_map verdict_faults (enumerate_from 0 verdicts) ++ keeps) →
        status.fault ≡ first_fault (run_faults (command_with g areas) course)
    fault_of there fault =
        fault
        ∙ ap (λ vs. first_fault (flat_map verdict_faults (enumerate_from 0 vs) ++ keeps)) ran.left.verdicts_are
        ∙ sym (went.faults there keeps)

    pub ran_whole : (memory || kept.memory) ≡ false →
        ((more : List Fault) → kept.fault ≡ first_fault more →
        status.fault ≡ first_fault (flat_map verdict_faults (enumerate_from 0 verdicts) ++ more)) →
        IsCountedRun (command_with g areas) before after status steps
    ran_whole there fault =
        let no_memory : memory ≡ false = neither memory kept.memory there in
        record {
          run = record {
            course = course;
            is_course = closed.is_course;
            how_far = Ran (record {
              opened = went.all_opened;
              fine = subst (λ us. flat_map (opening_faults (command_with g areas) course) us ≡ []) (sym went.all_opened)
                  (nothing_failed_to_open (command_with g areas) course plain went.opens went.makes);
              used = all_given (λ u. is_polygon u ≡ false) (WasUsed (command_with g areas) course)
                  (uses (plan_of g.tasks))
                  (went.used no_memory) plain;
              fault = fault_of no_memory (fault keeps closed.fault);
              ends = ends_of;
              files = told_more before.files after.files
                  (FilesKept (plan_of g.tasks) course (meaning_of (command_with g areas) course) (memory || kept.memory))
                  (FilesAfter (command_with g areas) course) closed.files
                  (λ was then held. files_after_tasks (command_with g areas) course was then went.spilled
                  (subst (λ short. FilesKept (plan_of g.tasks) course (meaning_of (command_with g areas) course) short was
                  then) there held));
            });
          };
          counted = (counted.least no_memory, few_steps);
        }

-- what holds whether memory ran out or not
by_memory : {P : Type 0} (memory : Bool) → (memory ≡ true → P) → (memory ≡ false → P) → P
by_memory true out there = out refl
by_memory false out there = there refl

-- the run of a command whose machines ran and whose files were closed
pub closed_run : {S K : Type 0} (g : GraphValue) (areas : Areas) (before after : Moment) (opened now : List DeviceSeen)
    (verdicts : List Verdict) (ends : List SourceEnd) (memory : Bool) (steps : ℕ) (ms : List (MachineKind S K))
    (ran : AreRanMachines g areas opened now verdicts ends memory steps ms) (kept : Kept) (status : Status) →
    AllByRecursion (λ u. is_polygon u ≡ false) (uses (plan_of g.tasks)) →
    AreClosed (plan_of g.tasks) ran.course (meaning_of (command_with g areas) ran.course) memory before after kept →
    status.ends ≡ ends → ((memory || kept.memory) ≡ true → status.fault ≡ Memory) →
    ((memory || kept.memory) ≡ false → (more : List Fault) → kept.fault ≡ first_fault more →
    status.fault ≡ first_fault (flat_map verdict_faults (enumerate_from 0 verdicts) ++ more)) →
    IsCountedRun (command_with g areas) before after status steps
closed_run g areas before after opened now verdicts ends memory steps ms ran kept status plain closed ends_are out there =
    by_memory (memory || kept.memory)
    (λ is. ran_out g areas before after opened now verdicts ends memory steps ms ran kept status plain closed ends_are
    (out is))
    (λ is. ran_whole g areas before after opened now verdicts ends memory steps ms ran kept status plain closed ends_are is
    (there is))

-- where no task ran no step was taken
idle_steps : (k : Command) (c : Course) (before after : Moment) (status : Status) →
    (far : HowFar k c before after status) → (RanItsTasks far → ⊥) → TakesSteps k c status.ends far 0
idle_steps k c before after status (Stopped stop) idle = refl
idle_steps k c before after status (Ran tasks) idle = absurd (idle tt)
idle_steps k c before after status (OutOfMemory memory) idle = omega arith

pub idle_run : (k : Command) (before after : Moment) (status : Status) (steps : ℕ) →
    IsIdleRun k before after status → steps ≡ 0 → IsCountedRun k before after status steps
idle_run k before after status steps is none =
    subst (IsCountedRun k before after status) (sym none)
    (record { run = is.run; counted = idle_steps k is.run.course before after status is.run.how_far is.idle })
