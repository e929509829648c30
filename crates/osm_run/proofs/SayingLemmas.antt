-- A run is the same where only what was said changed after it.
use Rattle.std.proofs.Common.{◌≡◌, ◌≤◌, ℕ, List, ◌++◌, sym, ap, subst, ◌∙◌}
use Rattle.std.specs.Prelude.{Result, flat_map}
use Rattle.std.specs.Io.KnownBytes.{append_known}
use Rattle.osm_graph.specs.Graphs.{GraphValue}
use Rattle.osm_host.specs.Counts.{Rose}
use Rattle.osm_host.specs.Moments.{Moment}
use Rattle.osm_host.specs.declared.outside.Op.{Op}
use Rattle.osm_report.specs.declared.fault.Fault.{Fault}
use Rattle.osm_run.specs.Command.{Command}
use Rattle.osm_run.specs.Course.{Course, any_failed}
use Rattle.osm_run.specs.HowFar.{AfterMemory, AfterStop, AfterTasks, FilesAfter, FilesMade, HowFar, FilesAtMemory, OutOfMemory, Ran, Stopped, WhereTold}
use Rattle.osm_run.specs.OnHost.{CountsBy, IsCourse, SameNames}
use Rattle.osm_run.specs.Outcome.{IsRun, IsSaid}
use Rattle.osm_run.specs.Plan.{Plan, names_of}
use Rattle.osm_run.specs.Commands.{command_of_graph}
use Rattle.osm_run.specs.WordsRun.{DidRun, IsRefusedOrRun, TakesSteps, TakesStepsOf, WereRefused}
use Rattle.osm_run.specs.declared.status.Status.{Status}

-- what is said after a run in which nothing was said
pub said_later : (text : List ℕ) (before between after : Moment) → between.said ≡ before.said →
    between.mute ≡ before.mute → IsSaid text between after → IsSaid text before after
said_later text before between after said mute is = record {
  silent = λ empty. ((is.silent empty).0 ∙ said, (is.silent empty).1 ∙ mute);
  later = subst (λ n. n ≤ after.mute) mute is.later;
  said = λ calm. is.said (subst (λ n. Rose n after.mute → ⊥) (sym mute) calm)
      ∙ ap (λ told. append_known told text) said;
}

module _ (before between after : Moment) (files : after.files ≡ between.files)
    (counts : (op : Op) (n : List ℕ) → after.count op n ≡ between.count op n)
    (gave : (n : List ℕ) → after.gave n ≡ between.gave n) (known : after.known ≡ between.known) where
  course_later : (plan : Plan) (c : Course) → IsCourse plan c before between → IsCourse plan c before after
  course_later plan c is = record {
    order = is.order;
    gives = is.gives;
    counts = λ op n. subst (CountsBy (any_failed c op n) (before.count op n)) (sym (counts op n)) (is.counts op n);
    gave = λ n. gave n ∙ is.gave n;
    known = subst (λ names. SameNames names (before.known ++ flat_map names_of c.opened)) (sym known) is.known;
  }

  stop_later : (k : Command) (c : Course) (status : Status) → AfterStop k c before between status →
      AfterStop k c before after status
  stop_later k c status stop = record {
    earlier = stop.earlier;
    last = stop.last;
    opened = stop.opened;
    used = stop.used;
    fine = stop.fine;
    fault = stop.fault;
    ends = stop.ends;
    files = subst (λ now. WhereTold before.files now (FilesMade stop.earlier)) (sym files) stop.files;
  }

  tasks_later : (k : Command) (c : Course) (status : Status) → AfterTasks k c before between status →
      AfterTasks k c before after status
  tasks_later k c status t = record {
    opened = t.opened;
    fine = t.fine;
    used = t.used;
    fault = t.fault;
    ends = t.ends;
    files = subst (λ now. WhereTold before.files now (FilesAfter k c)) (sym files) t.files;
  }

  memory_later : (k : Command) (c : Course) (status : Status) → AfterMemory k c before between status →
      AfterMemory k c before after status
  memory_later k c status m = record {
    place = m.place;
    fault = m.fault;
    ends = m.ends;
    files = subst (λ now. WhereTold before.files now (FilesAtMemory k c m.place)) (sym files) m.files;
  }

  far_later : (k : Command) (c : Course) (status : Status) → HowFar k c before between status →
      HowFar k c before after status
  far_later k c status (Stopped stop) = Stopped (stop_later k c status stop)
  far_later k c status (Ran t) = Ran (tasks_later k c status t)
  far_later k c status (OutOfMemory m) = OutOfMemory (memory_later k c status m)

  steps_later : (k : Command) (c : Course) (status : Status) (steps : ℕ) →
      (far : HowFar k c before between status) → TakesSteps k c status.ends far steps →
      TakesSteps k c status.ends (far_later k c status far) steps
  unfolding far_later
  steps_later k c status steps (Stopped stop) took = took
  steps_later k c status steps (Ran tasks) took = took
  steps_later k c status steps (OutOfMemory memory) took = took

  run_later : (k : Command) (status : Status) → IsRun k before between status → IsRun k before after status
  run_later k status r = record {
    course = r.course;
    is_course = course_later k.plan r.course r.is_course;
    how_far = far_later k r.course status r.how_far;
  }

  -- the run of words is the same where only what was said changed after it
  pub outcome_later : (asked : Result GraphValue Fault) (status : Status) →
      IsRefusedOrRun asked before between status → IsRefusedOrRun asked before after status
  outcome_later asked status (WereRefused r) = WereRefused (record {
    fault = r.fault;
    ends = r.ends;
    same = record {
      files = files ∙ r.same.files;
      counts = λ op n. counts op n ∙ r.same.counts op n;
      gave = λ n. gave n ∙ r.same.gave n;
      known = known ∙ r.same.known;
    };
  })
  outcome_later asked status (DidRun graph is runnable r) =
      DidRun graph is runnable (run_later (command_of_graph graph) status r)

  -- and it took the same steps
  pub counted_later : (asked : Result GraphValue Fault) (status : Status) (steps : ℕ) →
      (run : IsRefusedOrRun asked before between status) → TakesStepsOf run steps →
      TakesStepsOf (outcome_later asked status run) steps
  unfolding outcome_later run_later
  counted_later asked status steps (WereRefused r) took = took
  counted_later asked status steps (DidRun graph is runnable r) took =
      steps_later (command_of_graph graph) r.course status steps r.how_far took
