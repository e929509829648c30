use Rattle.osm_select.proofs.JudgedLemmas.{clips_by_output, judges_each}
use Rattle.osm_select.proofs.laws.passed_items_are_judged_by_all_before.Goals as goal

pub returns-clause-judged : goal.returns-clause-judged
returns-clause-judged c = judges_each

pub returns-clause-clipped : goal.returns-clause-clipped
returns-clause-clipped c = clips_by_output
