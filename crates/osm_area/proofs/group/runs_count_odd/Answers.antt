use Rattle.std.proofs.Common.{pos, refl}
use Rattle.std.specs.List.{count_by}
use Rattle.osm_area.specs.Edges.{counts, is_odd, is_ring_place, steps}
use Rattle.osm_area.specs.declared.bounds.Bounds.{Bounds}
use Rattle.osm_area.proofs.BoundsLemmas.{runs_fit-done, runs_fit-next, counted-done, counted-on, list_all-drop, list_all-take}
use Rattle.osm_area.proofs.group.runs_count_odd.Goals as goal

pub run_counts_odd-odd-requires-clause-places : goal.run_counts_odd-odd-requires-clause-places
run_counts_odd-odd-requires-clause-places c =
    rw c.first_run.ensures (list_all-take is_ring_place 33 c.loop-run.rest.now c.loop-run.invariant.placed)

pub run_counts_odd-odd-requires-clause-fits : goal.run_counts_odd-odd-requires-clause-fits
run_counts_odd-odd-requires-clause-fits c =
    let zero : Bounds = record { left = pos 0; right = pos 0; top = pos 0; bottom = pos 0 } in
    rw c.first_run.ensures
    (runs_fit-next c.args.runs.now c.loop-run.run-index zero c.loop-run.rest.now c.loop-run-test.true
    c.loop-run.invariant.fits).0

pub loop-run-preserved : goal.loop-run-preserved
loop-run-preserved c =
    let zero : Bounds = record { left = pos 0; right = pos 0; top = pos 0; bottom = pos 0 } in
    let part = rw c.first_run.ensures at c.run_counts_odd-odd.ensures in
    record {
      placed =
          rw c.after_run-rest.ensures (list_all-drop is_ring_place 32 c.loop-run.rest.now c.loop-run.invariant.placed);
      fits =
          rw c.after_run-rest.ensures
          (runs_fit-next c.args.runs.now c.loop-run.run-index zero c.loop-run.rest.now c.loop-run-test.true
          c.loop-run.invariant.fits).1;
      counted =
          rw c.after_run-rest.ensures
          (counted-on c.args.place.now 32 c.loop-run.rest.now
          (is_odd (count_by (counts c.args.place.now) (steps c.args.path.now))) c.loop-run.odd
          c.run_counts_odd-odd.result _
          c.loop-run.invariant.counted part refl);
    }

pub returns : goal.returns
returns c =
    counted-done c.args.place.now c.loop-run.rest.now
    (is_odd (count_by (counts c.args.place.now) (steps c.args.path.now))) c.loop-run.odd c.loop-run.invariant.counted
    (runs_fit-done c.args.runs.now c.loop-run.run-index c.loop-run.rest.now c.loop-run-test.false
    c.loop-run.invariant.fits)
