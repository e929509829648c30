use Rattle.std.proofs.Common.{◌∙◌, List, ap}
use Rattle.std.specs.Prelude.{filter}
use Rattle.osm_entity.specs.Items.{ItemValue}
use Rattle.osm_select.specs.Kept.{sets_of}
use Rattle.osm_select.specs.Parts.{has_item, keys_of}
use Rattle.osm_select.proofs.HeldLemmas.{keys_held, take_whole}
use Rattle.osm_select.proofs.choosing.output_ids.Goals as goal

pub loop-place-preserved : goal.loop-place-preserved
loop-place-preserved c = keys_held (has_item (sets_of c.args.kept.now)) (sets_of c.loop-place.keys)
    (sets_of c.add_kept.new.keys) c.args.items.now c.loop-place.place c.get.result.now c.get.ensures
    c.loop-place.invariant c.in_ok-add_kept.ensures

pub returns : goal.returns
returns c = c.loop-place.invariant
    ∙ ap (λ (items : List ItemValue). keys_of (filter (has_item (sets_of c.args.kept.now)) items))
    (take_whole c.args.items.now c.loop-place.place c.len-place-end.result c.len-place-end.ensures
    c.loop-place-test.false)
