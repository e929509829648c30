use Rattle.std.proofs.Common.{pos, take}
use Rattle.osm_entity.specs.declared.parts.Place.{Place}
use Rattle.osm_area.specs.Bounds.{bounds_hold}
use Rattle.osm_area.proofs.BoundsLemmas.{list_all-more, list_all-weaker}
use Rattle.osm_area.proofs.bounds.bounds_of.Goals as goal

pub loop-place-preserved : goal.loop-place-preserved
loop-place-preserved c =
    let zero : Place = record { lon = pos 0; lat = pos 0 } in
    let before =
    list_all-weaker (bounds_hold c.loop-place.bounds) (bounds_hold c.widened-bounds.result) c.widened-bounds.ensures.others
    (take c.loop-place.place-index c.args.path.now) c.loop-place.invariant in
    list_all-more (bounds_hold c.widened-bounds.result) c.args.path.now c.loop-place.place-index zero
    c.loop-place-test.true before c.widened-bounds.ensures.place
