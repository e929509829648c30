use Rattle.osm_entity.proofs.KeyLemmas.{cmp_is, partial_cmp_is, keys_told, before_third, not_before_back, before_differs}
use Rattle.osm_entity.proofs.laws.keys_have_one_order.Goals as goal

pub returns : goal.returns
returns c = record {
  told = keys_told;
  differ = before_differs;
  once = not_before_back;
  onward = before_third;
  cmp = cmp_is;
  partial_cmp = partial_cmp_is;
}
