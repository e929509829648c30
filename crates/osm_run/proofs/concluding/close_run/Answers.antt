use Rattle.std.proofs.Common.{◌≡◌, ◌≤◌, ◌++◌, length, sym, ap, subst, ◌∙◌}
use Rattle.std.specs.Prelude.{flat_map}
use Rattle.std.specs.List.{enumerate_from}
use Rattle.osm_graph.specs.Graphs.{most_joined_tasks}
use Rattle.osm_host.specs.Moments.{moment}
use Rattle.osm_run.specs.Closed.{AreClosed}
use Rattle.osm_run.specs.Commands.{command_with, plan_of}
use Rattle.osm_run.specs.Course.{first_fault, meaning_of}
use Rattle.osm_run.specs.Went.{verdict_faults}
use Rattle.osm_run.proofs.HeldLemmas.{no_polygon}
use Rattle.osm_run.proofs.OpenFilesLemmas.{can_close, sinks_apart}
use Rattle.osm_run.proofs.RanLemmas.{closed_run, devices_tell, ends_as_many, few_verdicts}
use Rattle.osm_run.proofs.concluding.close_run.Goals as goal

pub tell_ends-requires : goal.tell_ends-requires
tell_ends-requires g c =
    let held = c.requires.opened in
    ends_as_many c.args.graph.now held.1 held.0 held.0 held.2 _ _ _ _ held.3 held.4 held.6 _ c.requires.ends
    ∙ ap length (sym c.as_slice-told.ensures.value)

pub close_devices-kept-requires-clause-held : goal.close_devices-kept-requires-clause-held
close_devices-kept-requires-clause-held g c κs within =
    let held = c.requires.opened in
    let same : c.as_slice-tasks.result.now ≡ c.args.graph.now.tasks = c.as_slice-tasks.ensures ∙ c.tasks-all.ensures in
    rw same (can_close c.args.graph.now.tasks held.0 _ held.6.course
    (meaning_of (command_with c.args.graph.now held.1) held.6.course) _ held.2 _ held.5
    (devices_tell c.args.graph.now held.1 held.0 held.0 held.2 _ _ _ _ held.3 held.4 held.6))

pub close_devices-kept-requires-clause-apart : goal.close_devices-kept-requires-clause-apart
close_devices-kept-requires-clause-apart g c κs within =
    let same : c.as_slice-tasks.result.now ≡ c.args.graph.now.tasks = c.as_slice-tasks.ensures ∙ c.tasks-all.ensures in
    rw same (sinks_apart c.args.graph.now.tasks c.kept.ensures.apart)

pub fault_of_run-fault-requires : goal.fault_of_run-fault-requires
fault_of_run-fault-requires g c =
    let held = c.requires.opened in
    subst (λ vs. length vs ≤ most_joined_tasks) (sym c.as_slice-verdicts.ensures.value)
    (few_verdicts c.args.graph.now held.1 held.0 held.0 held.2 _ _ _ _ held.3 held.4 held.6 c.kept.ensures)

pub returns-clause-run : goal.returns-clause-run
returns-clause-run g c = λ before areas opened steps machines is_open ran.
    let same : c.as_slice-tasks.result.now ≡ c.args.graph.now.tasks = c.as_slice-tasks.ensures ∙ c.tasks-all.ensures in
    closed_run c.args.graph.now areas before _ opened _ _ _ _ steps machines ran c.close_devices-kept.result c.of.result
    (no_polygon c.args.graph.now.tasks)
    (subst (λ ts. AreClosed (plan_of ts) ran.course (meaning_of (command_with c.args.graph.now areas) ran.course)
    c.args.memory before
    (moment g.H.Host.files g.H.Host.said g.H.Host.mute g.H.Host.count g.H.Host.gave g.H.Host.known
    c.close_devices-kept.new.host) c.close_devices-kept.result) same
    (c.close_devices-kept.ensures.closed before opened ran.course
    (meaning_of (command_with c.args.graph.now areas) ran.course) _ (rw same is_open)
    (rw same (devices_tell c.args.graph.now areas before before opened _ _ _ _ steps machines ran))))
    (c.of.ensures.ends ∙ c.tell_ends.ensures ∙ c.as_slice-told.ensures.value)
    (λ is. c.of.ensures.fault ∙ c.fault_of_run-fault.ensures.memory is)
    (λ is more kept_is. c.of.ensures.fault ∙ c.fault_of_run-fault.ensures.fault is more kept_is
    ∙ ap (λ vs. first_fault (flat_map verdict_faults (enumerate_from 0 vs) ++ more)) c.as_slice-verdicts.ensures.value)
