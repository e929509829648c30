use Rattle.osm_select.specs.IdSets.{among}
use Rattle.osm_select.specs.Kept.{sets_of}
use Rattle.osm_select.proofs.SetLemmas.{around_none, held_are}
use Rattle.osm_select.proofs.sets.kept_ids.Goals as goal

pub draw-requires-clause-around : goal.draw-requires-clause-around
draw-requires-clause-around c = around_none c.args.area.now c.args.items.now (among c.in_ok-nodes.nodes)
    (among c.in_ok-ways.ways) (among c.new.result) c.in_ok-nodes.ensures c.in_ok-ways.ensures c.new.ensures

pub returns : goal.returns
returns c = held_are c.args.area.now c.args.complete c.args.items.now (sets_of c.draw.new.keys)
    (among c.complete_if.new.nodes) c.in_ok-draw.ensures c.in_ok-complete_if.ensures
