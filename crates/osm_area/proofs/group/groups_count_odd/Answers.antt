use Rattle.std.proofs.Common.{refl, sym, take}
use Rattle.std.specs.List.{count_by}
use Rattle.osm_area.specs.Edges.{counts, is_odd, is_ring_place, steps}
use Rattle.osm_area.proofs.BoundsLemmas.{counted-done, counted-on, group_fits-parts, groups_fit-done, groups_fit-next, list_all-drop, list_all-take}
use Rattle.osm_area.proofs.group.groups_count_odd.Goals as goal

pub group_counts_odd-odd-requires-clause-places : goal.group_counts_odd-odd-requires-clause-places
group_counts_odd-odd-requires-clause-places c =
    rw c.first_group.ensures (list_all-take is_ring_place 1025 c.loop-group.rest.now c.loop-group.invariant.placed)

pub group_counts_odd-odd-requires-clause-whole : goal.group_counts_odd-odd-requires-clause-whole
group_counts_odd-odd-requires-clause-whole c =
    let here =
    groups_fit-next c.args.groups.now c.loop-group.group-index c.group-item.result c.loop-group.rest.now
    c.loop-group-test.true c.loop-group.invariant.fits in
    rw c.first_group.ensures
    (group_fits-parts c.group-item.result (take 1025 c.loop-group.rest.now) (rw (sym c.group-item.is) at here.0)).0

pub group_counts_odd-odd-requires-clause-runs : goal.group_counts_odd-odd-requires-clause-runs
group_counts_odd-odd-requires-clause-runs c =
    let here =
    groups_fit-next c.args.groups.now c.loop-group.group-index c.group-item.result c.loop-group.rest.now
    c.loop-group-test.true c.loop-group.invariant.fits in
    rw c.first_group.ensures
    (group_fits-parts c.group-item.result (take 1025 c.loop-group.rest.now) (rw (sym c.group-item.is) at here.0)).1

pub loop-group-preserved : goal.loop-group-preserved
loop-group-preserved c =
    let part = rw c.first_group.ensures at c.group_counts_odd-odd.ensures in
    record {
      placed =
          rw c.after_group-rest.ensures
          (list_all-drop is_ring_place 1024 c.loop-group.rest.now c.loop-group.invariant.placed);
      fits =
          rw c.after_group-rest.ensures
          (groups_fit-next c.args.groups.now c.loop-group.group-index c.group-item.result c.loop-group.rest.now
          c.loop-group-test.true c.loop-group.invariant.fits).1;
      counted =
          rw c.after_group-rest.ensures
          (counted-on c.args.place.now 1024 c.loop-group.rest.now
          (is_odd (count_by (counts c.args.place.now) (steps c.args.path.now))) c.loop-group.odd
          c.group_counts_odd-odd.result _ c.loop-group.invariant.counted part refl);
    }

pub returns : goal.returns
returns c =
    counted-done c.args.place.now c.loop-group.rest.now
    (is_odd (count_by (counts c.args.place.now) (steps c.args.path.now))) c.loop-group.odd
    c.loop-group.invariant.counted
    (groups_fit-done c.args.groups.now c.loop-group.group-index c.loop-group.rest.now c.loop-group-test.false
    c.loop-group.invariant.fits)
