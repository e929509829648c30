use Rattle.std.proofs.Common.{◌≤◌, refl, sym, subst}
use Rattle.osm_graph.specs.Graphs.{most_joined_tasks}
use Rattle.osm_run.proofs.FinishedLemmas.{finished_count, finished_left, finished_room}
use Rattle.osm_run.proofs.concluding.conclude.Goals as goal

pub finish_machines-requires-clause-few : goal.finish_machines-requires-clause-few
finish_machines-requires-clause-few g c =
    subst (λ n. n ≤ most_joined_tasks)
    (sym (finished_count c.args.graph.now c.requires.0 _ _ _ _ _ c.requires.1 c.requires.2)) c.kept.ensures.few_tasks

pub finish_machines-requires-clause-room : goal.finish_machines-requires-clause-room
finish_machines-requires-clause-room g c =
    finished_room c.args.graph.now c.requires.0 _ _ _ _ _ c.requires.1 c.requires.2

pub close_run-requires-clause-opened : goal.close_run-requires-clause-opened
close_run-requires-clause-opened g c κs within =
    let done = c.requires.2 in (
      done.ready.middle,
      done.ready.areas,
      done.ready.devices,
      c.requires.1,
      c.args.finished.machines.items,
      done.ready.opened,
      finished_left c.args.graph.now c.requires.0 _ _ _ _ _ c.requires.1 done _ _ _ c.finish_machines.ensures,
    )

pub returns-clause-run : goal.returns-clause-run
returns-clause-run g c = λ before steps done.
    done.ready.read c.args.graph.now _ _ steps refl
    (c.close_run.ensures.run done.ready.middle done.ready.areas done.ready.devices steps
    c.args.finished.machines.items done.ready.opened
    (finished_left c.args.graph.now before _ _ _ _ _ steps done _ _ _ c.finish_machines.ensures))
