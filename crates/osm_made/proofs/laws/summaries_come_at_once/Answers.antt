use Rattle.osm_made.proofs.SummaryLemmas.{summary_text-before}
use Rattle.osm_made.proofs.laws.summaries_come_at_once.Goals as goal

pub returns : goal.returns
returns c = summary_text-before
