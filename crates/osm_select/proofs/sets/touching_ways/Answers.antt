use Rattle.std.proofs.Common.{◌∙◌, ap, take}
use Rattle.osm_entity.specs.Items.{ItemValue}
use Rattle.osm_select.specs.IdSets.{among}
use Rattle.osm_select.specs.Parts.{ids_where, touches}
use Rattle.osm_select.proofs.FrontLemmas.{nodes_touch_none}
use Rattle.osm_select.proofs.HeldLemmas.{take_whole, where_held}
use Rattle.osm_select.proofs.sets.touching_ways.Goals as goal

pub loop-place-init : goal.loop-place-init
loop-place-init c = c.new-ids.ensures
    ∙ nodes_touch_none (among c.args.nodes.now) (take c.args.start c.args.items.now) c.requires

pub loop-place-preserved : goal.loop-place-preserved
loop-place-preserved c = where_held (λ (item : ItemValue). touches (among c.args.nodes.now) item.entity.body)
    (among c.loop-place.ids) (among c.add_touching.new.ids) c.args.items.now c.loop-place.place c.get.result.now
    c.get.ensures c.loop-place.invariant c.in_ok-add_touching.ensures

pub returns : goal.returns
returns c = c.loop-place.invariant
    ∙ ap (ids_where (λ (item : ItemValue). touches (among c.args.nodes.now) item.entity.body))
    (take_whole c.args.items.now c.loop-place.place c.len-place-end.result c.len-place-end.ensures
    c.loop-place-test.false)
