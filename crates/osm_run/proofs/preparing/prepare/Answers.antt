use Rattle.std.proofs.Common.{◌≡◌, sym, subst, ◌∙◌}
use Rattle.osm_host.specs.Moments.{Moment, moment}
use Rattle.osm_run.specs.Asked.{graph_asked}
use Rattle.osm_run.specs.Prepared.{AreReady}
use Rattle.osm_run.specs.WordsRun.{IsRefusedOrCounted}
use Rattle.osm_run.proofs.AskedLemmas.{command_run, handed_on, refused_run}
use Rattle.osm_run.proofs.preparing.prepare.Goals as goal

pub returns-in_err-graph-clause-over : goal.returns-in_err-graph-clause-over
returns-in_err-graph-clause-over g c =
    let before : Moment = moment g.H.Host.files g.H.Host.said g.H.Host.mute g.H.Host.count g.H.Host.gave g.H.Host.known
    c.args.host.now in
    handed_on c.from_residual.result c.in_err-graph.field-0.0
    (λ status. IsRefusedOrCounted (graph_asked c.args.words.now) before before status 0) c.from_residual.ensures.1
    (refused_run (graph_asked c.args.words.now) before c.in_err-graph.field-0.0 c.in_err-graph.ensures.refused
    c.in_err-graph.ensures.ends)

pub returns-in_err-ready-clause-over : goal.returns-in_err-ready-clause-over
returns-in_err-ready-clause-over g c =
    let before : Moment = moment g.H.Host.files g.H.Host.said g.H.Host.mute g.H.Host.count g.H.Host.gave g.H.Host.known
    c.args.host.now in
    let now : Moment = moment g.H.Host.files g.H.Host.said g.H.Host.mute g.H.Host.count g.H.Host.gave g.H.Host.known
    c.prepare_tasks.new.host in
    let same : c.as_slice-tasks.result.now ≡ c.in_ok-graph.graph.tasks = c.as_slice-tasks.ensures ∙ c.tasks-all.ensures in
    handed_on c.from_residual-in_err-ready.result c.in_err-ready.field-0.0
    (λ status. IsRefusedOrCounted (graph_asked c.args.words.now) before now status 0)
    c.from_residual-in_err-ready.ensures.1
    (command_run (graph_asked c.args.words.now) c.in_ok-graph.graph before now c.in_err-ready.field-0.0 0
    c.in_ok-graph.ensures.asked c.in_ok-graph.ensures.bare
    (c.in_err-ready.ensures.over c.in_ok-graph.graph (sym same)))

pub returns-clause-ready : goal.returns-clause-ready
returns-clause-ready g c =
    let before : Moment = moment g.H.Host.files g.H.Host.said g.H.Host.mute g.H.Host.count g.H.Host.gave g.H.Host.known
    c.args.host.now in
    let now : Moment = moment g.H.Host.files g.H.Host.said g.H.Host.mute g.H.Host.count g.H.Host.gave g.H.Host.known
    c.prepare_tasks.new.host in
    let same : c.as_slice-tasks.result.now ≡ c.in_ok-graph.graph.tasks = c.as_slice-tasks.ensures ∙ c.tasks-all.ensures in
    record {
      asked = c.in_ok-graph.ensures.asked;
      bare = c.in_ok-graph.ensures.bare;
      ready = subst (λ ts. AreReady ts before now c.in_ok-ready.ready.machines.items c.in_ok-ready.ready.left
          c.in_ok-ready.ready.ends) same c.in_ok-ready.ensures.ready;
    }
