use Rattle.std.proofs.Common.{◌∙◌, ap, refl}
use Rattle.std.specs.Fmt.{digits}
use Rattle.osm_made.specs.Summaries.{summary_lines}
use Rattle.osm_made.proofs.SumLemmas.{summed_over-made_list}
use Rattle.osm_made.proofs.laws.a_million_made_items_sum_up.Goals as goal

pub returns : goal.returns
unfolding digits summary_lines
returns c = λ seed. ap summary_lines (summed_over-made_list 1000000 seed) ∙ refl
