use Rattle.osm_sort.proofs.SortMachineLemmas.{sort_keeps, sort_gives_at_end, sort_is_lawful}
use Rattle.osm_sort.proofs.laws.sorts_keep_their_rule.Goals as goal

pub returns : goal.returns
returns c = record { keeps = sort_keeps; at_end = sort_gives_at_end; lawful = sort_is_lawful }
