use Rattle.osm_run.proofs.running.run_words.Goals as goal

pub returns-in-Ok-clause-run : goal.returns-in-Ok-clause-run
returns-in-Ok-clause-run g c = c.run_prepared.ensures.run c.args.words.now _ c.in-Ok.ensures.ready
