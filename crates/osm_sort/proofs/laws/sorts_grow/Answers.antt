use Rattle.osm_sort.proofs.SortMachineLemmas.{sort_grows, sort_is_monotone}
use Rattle.osm_sort.proofs.laws.sorts_grow.Goals as goal

pub returns : goal.returns
returns c = record { grows = sort_grows; monotone = sort_is_monotone }
