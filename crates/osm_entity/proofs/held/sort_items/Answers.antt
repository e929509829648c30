use Rattle.std.proofs.Common.{rules}
use Rattle.std.proofs.lemmas.List.Sorted.{answers_always}
use Rattle.osm_entity.specs.Items.{key_of}
use Rattle.osm_entity.proofs.SortLemmas.{one_sorted_by_cmp}
use Rattle.osm_entity.proofs.held.sort_items.Goals as goal

pub returns-in-Ok-clause-ok : goal.returns-in-Ok-clause-ok
returns-in-Ok-clause-ok c = one_sorted_by_cmp c.args.items.now c.sort_by_key.new.self
    (c.in-Ok.ensures.sorted key_of (answers_always _ _ _ (λ f a r g h. search rules)))
    (c.sort_by_key.ensures.stable key_of (answers_always _ _ _ (λ f a r g h. search rules)))
