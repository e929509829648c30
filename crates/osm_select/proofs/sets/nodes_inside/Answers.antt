use Rattle.std.proofs.Common.{◌∙◌, ap}
use Rattle.osm_entity.specs.Items.{ItemValue}
use Rattle.osm_select.specs.IdSets.{among}
use Rattle.osm_select.specs.Parts.{lies_inside, nodes_inside}
use Rattle.osm_select.proofs.HeldLemmas.{take_whole, where_held}
use Rattle.osm_select.proofs.sets.nodes_inside.Goals as goal

pub loop-place-preserved : goal.loop-place-preserved
loop-place-preserved c = where_held (λ (item : ItemValue). lies_inside c.args.area.now item.entity.body)
    (among c.loop-place.ids) (among c.add_inside.new.ids) c.args.items.now c.loop-place.place c.get.result.now
    c.get.ensures c.loop-place.invariant c.in_ok-add_inside.ensures

pub returns : goal.returns
returns c = c.loop-place.invariant ∙ ap (nodes_inside c.args.area.now) (take_whole c.args.items.now c.loop-place.place
    c.len-place-end.result c.len-place-end.ensures c.loop-place-test.false)
