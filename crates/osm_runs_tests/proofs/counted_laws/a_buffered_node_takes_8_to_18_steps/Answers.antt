use Rattle.osm_runs_tests.proofs.CountedLemmas.{words_take}
use Rattle.osm_runs_tests.proofs.counted_laws.a_buffered_node_takes_8_to_18_steps.Goals as goal

pub returns : goal.returns
returns c = words_take
