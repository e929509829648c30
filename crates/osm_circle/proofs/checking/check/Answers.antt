use Rattle.std.proofs.Common.{◌≡◌, ◌<◌, ◌-◌, List, length, rules, ap, sym, subst, ◌∙◌}
use Rattle.std.specs.Prelude.{Some, slice_get}
use Rattle.osm_circle.specs.Search.{CanFollow}
use Rattle.osm_circle.proofs.Trails.{IsTrail}
use Rattle.osm_circle.specs.declared.circle.Sense.{Sense}
use Rattle.osm_circle.proofs.PruneLemmas.{unmarked}
use Rattle.osm_circle.proofs.TrailLemmas.{closes_at, goes_on_at, has_room, longer_by, shorter}
use Rattle.osm_circle.proofs.checking.check.Goals as goal

pub push-requires : goal.push-requires
push-requires c =
    let more = longer_by c.args.graph.now.pipes c.loop-next.live c.loop-next.walk.items c.deref.result.now
    c.copied.result c.in-Some.next c.loop-next.invariant.1 c.deref.ensures.0
    (c.copied.ensures ∙ c.last.ensures.value) c.in-Some.ensures.some in
    let room : length c.loop-next.walk.items < 128 =
    has_room c.args.graph.now.pipes c.loop-next.live c.loop-next.walk.items c.in-Some.next c.kept.ensures.few_pipes
    c.loop-next.invariant.0 more in
    search (rules, room)

pub circle_of-requires-clause-ring : goal.circle_of-requires-clause-ring
circle_of-requires-clause-ring c =
    let more = longer_by c.args.graph.now.pipes c.loop-next.live c.loop-next.walk.items c.deref.result.now
    c.copied.result c.in-Some.next c.loop-next.invariant.1 c.deref.ensures.0
    (c.copied.ensures ∙ c.last.ensures.value) c.in-Some.ensures.some in
    closes_at c.args.graph.now.pipes c.loop-next.live c.loop-next.walk.items c.as_slice.result.now
    c.as_slice-in-Some-place.result.now c.in-Some.next c.in-Some-place.at c.end_of.result
    c.loop-next.invariant.0 more c.as_slice.ensures.value c.end_of.ensures c.in-Some-place.ensures.some
    (c.as_slice-in-Some-place.ensures.value ∙ c.push.ensures.items)

pub loop-next-preserved-in_default : goal.loop-next-preserved-in_default
loop-next-preserved-in_default c =
    let more = longer_by c.args.graph.now.pipes c.loop-next.live c.loop-next.walk.items c.deref.result.now
    c.copied.result c.in-Some.next c.loop-next.invariant.1 c.deref.ensures.0
    (c.copied.ensures ∙ c.last.ensures.value) c.in-Some.ensures.some in (
      c.loop-next.invariant.0,
      goes_on_at c.args.graph.now.pipes c.loop-next.live c.loop-next.walk.items c.as_slice.result.now
          c.push.new.self.items c.in-Some.next c.end_of.result c.kept.ensures.whole.forward c.in-Some.ensures.known more
          c.as_slice.ensures.value c.end_of.ensures c.in_default.ensures.none c.push.ensures.items,
    )

pub loop-next-preserved : goal.loop-next-preserved
loop-next-preserved c =
    let last : c.copied.result ≡ Some c.in-Some-pop.last =
    c.copied.ensures ∙ c.last.ensures.value ∙
    ap (λ (list : List Sense). slice_get list (length list - 1)) c.deref.ensures.0 ∙
    sym c.in-Some-pop.ensures.value in (
      unmarked c.args.graph.now.pipes c.loop-next.live c.remove.new.self c.in-Some-pop.last c.loop-next.invariant.0
          (λ s known follows.
          c.in-None.ensures.none s known (subst (λ o. CanFollow c.args.graph.now.pipes o s) (sym last) follows))
          c.remove.ensures.others c.remove.ensures.fewer,
      shorter c.args.graph.now.pipes c.loop-next.live c.remove.new.self c.pop.new.self.items c.in-Some-pop.last
          (subst (IsTrail c.args.graph.now.pipes c.loop-next.live) c.in-Some-pop.ensures.items c.loop-next.invariant.1)
          c.remove.ensures.others,
    )
