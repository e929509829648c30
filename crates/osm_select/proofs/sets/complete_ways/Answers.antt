use Rattle.std.proofs.Common.{◌∙◌, ap, take, List}
use Rattle.std.specs.List.{list_any}
use Rattle.osm_entity.specs.Items.{ItemValue}
use Rattle.osm_select.specs.Held.{completes}
use Rattle.osm_select.specs.IdSets.{among, either}
use Rattle.osm_select.proofs.FrontLemmas.{nodes_complete_none}
use Rattle.osm_select.proofs.HeldLemmas.{completes_held, take_whole}
use Rattle.osm_select.proofs.sets.complete_ways.Goals as goal

pub loop-place-init : goal.loop-place-init
loop-place-init c = nodes_complete_none (among c.args.ways.now) (among c.args.nodes.now)
    (take c.args.start c.args.items.now) c.requires

pub loop-place-preserved : goal.loop-place-preserved
loop-place-preserved c = completes_held (among c.args.ways.now) (among c.args.nodes.now) (among c.loop-place.nodes)
    (among c.complete_way.new.nodes) c.args.items.now c.loop-place.place c.get.result.now c.get.ensures
    c.loop-place.invariant c.in_ok-complete_way.ensures

pub returns : goal.returns
returns c = c.loop-place.invariant ∙ ap (λ (items : List ItemValue).
    either (among c.args.nodes.now) (λ id. list_any (completes (among c.args.ways.now) id) items))
    (take_whole c.args.items.now c.loop-place.place c.len-place-end.result c.len-place-end.ensures
    c.loop-place-test.false)
