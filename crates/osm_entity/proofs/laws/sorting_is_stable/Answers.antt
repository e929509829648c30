use Rattle.osm_entity.proofs.SortLemmas.{sorted_items_rise, sorted_items_are_stable, one_sorted_by_key}
use Rattle.osm_entity.proofs.laws.sorting_is_stable.Goals as goal

pub returns : goal.returns
returns c = record {
  rising = sorted_items_rise;
  stable = sorted_items_are_stable;
  only = one_sorted_by_key;
}
