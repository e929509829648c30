use Rattle.std.proofs.Common.{◌≡◌, List, [], ◌∙◌, refl, sym, ap, subst}
use Rattle.osm_host.specs.Moments.{Moment, moment}
use Rattle.osm_tasks.specs.Tasks.{TaskValue}
use Rattle.osm_run.specs.Commands.{area_at, command_with, plan_of}
use Rattle.osm_run.specs.Course.{entries}
use Rattle.osm_run.specs.Opened.{AreOpened, course_at_rest}
use Rattle.osm_run.specs.Went.{DeviceSeen}
use Rattle.osm_run.specs.WordsRun.{RanNoTask}
use Rattle.osm_run.proofs.AskedLemmas.{handed_on}
use Rattle.osm_run.proofs.HeldLemmas.{reads_or_writes}
use Rattle.osm_run.proofs.OpenFilesLemmas.{devices_for, fresh_devices}
use Rattle.osm_run.proofs.RanLemmas.{idle_run}
use Rattle.osm_run.proofs.RefusedLemmas.{memory_after_opening}
use Rattle.osm_run.proofs.preparing.prepare_tasks.Goals as goal

-- files that were opened for tasks were opened for the same tasks
opened_for : (tasks same : List TaskValue) (before now : Moment) (devices : List DeviceSeen) → same ≡ tasks →
    AreOpened (plan_of tasks) before now devices → AreOpened (plan_of same) before now devices
opened_for tasks same before now devices is = subst (λ ts. AreOpened (plan_of ts) before now devices) (sym is)

pub open_devices-requires-clause-files : goal.open_devices-requires-clause-files
open_devices-requires-clause-files g c κs within = reads_or_writes c.args.tasks.now

pub make_all-requires-clause-devices : goal.make_all-requires-clause-devices
make_all-requires-clause-devices g c = devices_for c.args.tasks.now _ _ _ c.in_ok-opened.ensures.opened

pub make_all-requires-clause-fresh : goal.make_all-requires-clause-fresh
make_all-requires-clause-fresh g c = fresh_devices (plan_of c.args.tasks.now) _ _ _ c.in_ok-opened.ensures.opened

pub returns-in_err-opened-clause-over : goal.returns-in_err-opened-clause-over
returns-in_err-opened-clause-over g c =
    let before : Moment = moment g.H.Host.files g.H.Host.said g.H.Host.mute g.H.Host.count g.H.Host.gave g.H.Host.known
    c.args.host.now in
    let middle : Moment = moment g.H.Host.files g.H.Host.said g.H.Host.mute g.H.Host.count g.H.Host.gave g.H.Host.known
    c.read_areas.new.host in
    let now : Moment = moment g.H.Host.files g.H.Host.said g.H.Host.mute g.H.Host.count g.H.Host.gave g.H.Host.known
    c.open_devices.new.host in
    handed_on c.from_residual-in_err-opened.result c.in_err-opened.field-0.0 (RanNoTask c.args.tasks.now before now)
    c.from_residual-in_err-opened.ensures.1
    (λ graph same. c.in_ok-areas.ensures.read graph now c.in_err-opened.field-0.0 0 same
    (idle_run (command_with graph (area_at c.in_ok-areas.areas.items)) middle now c.in_err-opened.field-0.0 0
    (c.in_err-opened.ensures.stopped (command_with graph (area_at c.in_ok-areas.areas.items)) (ap plan_of same)) refl))

pub returns-in-Err-clause-over : goal.returns-in-Err-clause-over
returns-in-Err-clause-over g c = λ graph same.
    let middle : Moment = moment g.H.Host.files g.H.Host.said g.H.Host.mute g.H.Host.count g.H.Host.gave g.H.Host.known
    c.read_areas.new.host in
    let now : Moment = moment g.H.Host.files g.H.Host.said g.H.Host.mute g.H.Host.count g.H.Host.gave g.H.Host.known
    c.open_devices.new.host in
    c.in_ok-areas.ensures.read graph now c.of.result 0 same
    (idle_run (command_with graph (area_at c.in_ok-areas.areas.items)) middle now c.of.result 0
    (memory_after_opening (command_with graph (area_at c.in_ok-areas.areas.items)) middle now now _ c.of.result
    (reads_or_writes graph.tasks)
    (opened_for c.args.tasks.now graph.tasks middle now _ same c.in_ok-opened.ensures.opened)
    refl (λ o n. refl) (λ n. refl) refl c.of.ensures.fault
    (c.of.ensures.ends ∙ c.in_ok-opened.ensures.ends ∙ ap (λ ts. entries (plan_of ts) (course_at_rest [])) (sym same)))
    refl)
