use Rattle.std.proofs.Common.{ap, subst, take, ◌∙◌, ◌≤◌}
use Rattle.osm_select.specs.Held.{is_drawn}
use Rattle.osm_select.specs.IdSets.{among}
use Rattle.osm_select.specs.Kept.{sets_of}
use Rattle.osm_select.specs.Links.{linked}
use Rattle.osm_select.proofs.DrawLemmas.{draws}
use Rattle.osm_select.proofs.FrontLemmas.{nodes_are_not_drawn, nodes_link_none}
use Rattle.osm_select.proofs.HeldLemmas.{links_held, where_held}
use Rattle.osm_select.proofs.sets.draw.Goals as goal

pub loop-place-init : goal.loop-place-init
loop-place-init c =
    let front = take c.args.start c.args.items.now in
    record {
      marked = c.new-marked.ensures ∙ nodes_are_not_drawn (sets_of c.args.keys.now) front c.requires.nodes;
      queue = ap among c.new-queue.ensures ∙ nodes_are_not_drawn (sets_of c.args.keys.now) front c.requires.nodes;
      links = c.new-links.ensures ∙ nodes_link_none front c.requires.nodes;
    }

pub loop-place-preserved : goal.loop-place-preserved
loop-place-preserved c =
    let items = c.args.items.now in
    let drawn = is_drawn (sets_of c.args.keys.now) in
    record {
      marked = where_held drawn (among c.loop-place.marked) (among c.draw_item.new.marked) items c.loop-place.place
          c.get.result.now c.get.ensures c.loop-place.invariant.marked c.in_ok-draw_item.ensures.marked;
      queue = where_held drawn (among c.loop-place.queue) (among c.draw_item.new.queue) items c.loop-place.place
          c.get.result.now c.get.ensures c.loop-place.invariant.queue c.in_ok-draw_item.ensures.queue;
      links = links_held (linked c.loop-place.links) (linked c.draw_item.new.links) items c.loop-place.place
          c.get.result.now c.get.ensures c.loop-place.invariant.links c.in_ok-draw_item.ensures.links;
    }

pub returns : goal.returns
returns c = draws c.args.area.now c.args.items.now (sets_of c.args.keys.now) c.loop-place.place
    (among c.loop-place.marked) (among c.follow.new.marked) (linked c.loop-place.links) c.requires.around
    (subst (λ n. n ≤ c.loop-place.place) c.len-place-end.ensures c.loop-place-test.false)
    c.loop-place.invariant.marked c.loop-place.invariant.links c.in_ok-follow.ensures.grows
    c.in_ok-follow.ensures.closed c.in_ok-follow.ensures.least
