use Rattle.std.proofs.Common.{◌≡◌, ◌-◌, subst, arith}
use Rattle.osm_run.specs.Asked.{graph_asked}
use Rattle.osm_run.specs.WordsRun.{IsRefusedOrCounted}
use Rattle.osm_run.proofs.running.run_words_alone.Goals as goal

pub returns-in-Ok-clause-run : goal.returns-in-Ok-clause-run
returns-in-Ok-clause-run g c = c.run_prepared_alone.ensures.run c.args.words.now _ c.in-Ok.ensures.ready

pub returns-in-Err-clause-run : goal.returns-in-Err-clause-run
returns-in-Err-clause-run g c =
    subst (IsRefusedOrCounted (graph_asked c.args.words.now) _ _ c.in-Err.status)
    (let none : 0 ≡ c.args.steps.now - c.args.steps.now = omega arith in none) c.in-Err.ensures.over
