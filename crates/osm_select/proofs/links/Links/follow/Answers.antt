use Rattle.std.proofs.Common.{◌∙◌, ap, sym, ℤ, Bool}
use Rattle.osm_select.specs.IdSets.{among, either}
use Rattle.osm_select.specs.Links.{linked}
use Rattle.osm_select.proofs.LinkLemmas.{follows_none, follows_more, followed_all}
use Rattle.osm_select.proofs.links.Links.follow.Goals as goal

pub loop-ids-init : goal.loop-ids-init
loop-ids-init c = follows_none (linked c.args.self.now) (among c.args.marked.now) (among c.args.queue.now) c.requires

pub loop-ids-preserved : goal.loop-ids-preserved
loop-ids-preserved c =
    follows_more (linked c.args.self.now) (among c.args.marked.now) (among c.loop-ids.marked)
    (among c.mark.new.marked) (among c.loop-ids.queue) (among c.next.new.queue) (among c.mark.new.queue)
    (linked c.loop-ids.self) (linked c.next.new.self)
    (among c.in-Some.ids) c.loop-ids.invariant c.in-Some.ensures.some
    (c.in_ok-mark.ensures.marked ∙ ap (λ ids. either (among c.loop-ids.marked) (among ids)) c.as_slice.ensures)
    (c.in_ok-mark.ensures.queue ∙ ap (λ ids. either (among c.next.new.queue) (among ids)) c.as_slice.ensures)

pub returns : goal.returns
returns c = record {
  grows = c.loop-ids.invariant.grown;
  closed = followed_all (linked c.args.self.now) (among c.args.marked.now) (among c.loop-ids.marked)
      (among c.loop-ids.queue) (linked c.loop-ids.self) c.loop-ids.invariant
      (λ n b is. ap (λ (f : ℤ → ℤ → Bool). f n b) (sym c.in_default.ensures.rest)
      ∙ c.in_default.ensures.still n b is);
  least = c.loop-ids.invariant.least;
}
