-- There is room for one task more, and an entry where it is a reader.
use Rattle.std.proofs.Common.{◌∷◌, [], ◌++◌, replicate, take, refl, sym, ap, ◌∙◌, arith}
use Rattle.std.specs.Prelude.{flat_map, if◌then◌else◌}
use Rattle.std.specs.Option.{option_copied}
use Rattle.osm_run.specs.Commands.{plan_of}
use Rattle.osm_run.specs.Course.{entry}
use Rattle.osm_run.specs.Opened.{course_at_rest, device_seen, devices_seen}
use Rattle.osm_run.specs.Plan.{uses}
use Rattle.osm_run.specs.Went.{NoDevice}
use Rattle.osm_run.specs.declared.devices.Device.TheVariants.{Nothing}
use Rattle.osm_run.proofs.SeenLemmas.{entries_all, entries_more, entries_same_more, length-plan_of, room_more, source_named}
use Rattle.osm_run.proofs.UsesLemmas.{plain_at}
use Rattle.osm_run.proofs.opening.room_for.Goals as goal
use Rattle.osm_run.proofs.opening.room_for.Goals.{in-Some+in_ok-push, in_default}

pub loop-at-preserved : goal.loop-at-preserved
loop-at-preserved g c = (
  λ source_as sink_as. ap (devices_seen source_as sink_as) (c.push.ensures.items
      ∙ ap (λ b. if b then c.loop-at.devices.items ++ Nothing ∷ [] else c.loop-at.devices.items)
      c.if-is_err.ensures.negation)
      ∙ room_more (device_seen source_as sink_as) c.loop-at.devices.items c.loop-at.at Nothing refl
      (c.loop-at.invariant.0 source_as sink_as),
  elim c.match-source_name.branch [
    | in-Some+in_ok-push w ↦ w.ends-is ∙ w.in_ok-push.ensures.ok
        ∙ ap (λ es. es ++ w.at_rest.result ∷ []) c.loop-at.invariant.1
        ∙ ap (λ e. flat_map (entry (course_at_rest [])) (uses (take c.loop-at.at (plan_of c.args.tasks.now))) ++ e ∷ [])
        w.at_rest.ensures
        ∙ sym (entries_more (plan_of c.args.tasks.now) c.loop-at.at w.in-Some._name.now
        (omega (arith, length-plan_of c.args.tasks.now, c.loop-at-test.true))
        (source_named c.args.tasks.now c.loop-at.at c.index-tasks-at.result c.task.inside.kind
        (option_copied c.source_name.result) c.loop-at-test.true c.index-tasks-at.is (ap (λ x. x.kind) c.task.view_is)
        c.source_name.ensures ∙ ap option_copied w.in-Some.is))
    | in_default w ↦ w.ends-is ∙ c.loop-at.invariant.1
        ∙ sym (entries_same_more (plan_of c.args.tasks.now) c.loop-at.at
        (omega (arith, length-plan_of c.args.tasks.now, c.loop-at-test.true))
        (plain_at (plan_of c.args.tasks.now) c.loop-at.at c.requires.files
        (omega (arith, length-plan_of c.args.tasks.now, c.loop-at-test.true)))
        (source_named c.args.tasks.now c.loop-at.at c.index-tasks-at.result c.task.inside.kind
        (option_copied c.source_name.result) c.loop-at-test.true c.index-tasks-at.is (ap (λ x. x.kind) c.task.view_is)
        c.source_name.ensures ∙ ap option_copied w.in_default.is))
  ],
)

pub returns-clause-devices : goal.returns-clause-devices
returns-clause-devices g c = λ source_as sink_as. c.loop-at.invariant.0 source_as sink_as
    ∙ ap (λ n. replicate n NoDevice) (omega (arith, c.loop-at-test.false, c.loop-at.auto.at-end))

pub returns-clause-ends : goal.returns-clause-ends
returns-clause-ends g c = c.loop-at.invariant.1
    ∙ ap (λ n. flat_map (entry (course_at_rest [])) (uses (take n (plan_of c.args.tasks.now))))
    (omega (arith, c.loop-at-test.false, c.loop-at.auto.at-end)) ∙ entries_all c.args.tasks.now
