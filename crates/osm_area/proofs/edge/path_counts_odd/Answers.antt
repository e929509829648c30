use Rattle.std.proofs.Common.{sym, ◌∙◌, ap, pos, arith}
use Rattle.std.specs.List.{count_by}
use Rattle.osm_area.specs.Edges.{counts, is_odd}
use Rattle.osm_area.proofs.PathLemmas.{odd-turned, odd-kept, take-steps}
use Rattle.osm_area.proofs.edge.path_counts_odd.Goals as goal
use Rattle.osm_area.proofs.edge.path_counts_odd.Goals.{then-edge_counts, else-edge_counts}

pub loop-at-preserved : goal.loop-at-preserved
loop-at-preserved c = record {
  begun = omega arith;
  odd =
      elim c.if-edge_counts.branch [
        | then-edge_counts w ↦
            odd-turned c.args.place.now c.args.path.now c.loop-at.at (record { lon = pos 0; lat = pos 0 }) _ _
            c.loop-at.invariant.begun c.loop-at-test.true c.loop-at.invariant.odd
            (sym c.edge_counts.ensures ∙ w.if-edge_counts.true) w.odd-is
        | else-edge_counts w ↦
            odd-kept c.args.place.now c.args.path.now c.loop-at.at (record { lon = pos 0; lat = pos 0 }) _ _
            c.loop-at.invariant.begun c.loop-at-test.true c.loop-at.invariant.odd
            (sym c.edge_counts.ensures ∙ w.if-edge_counts.false) w.odd-is
      ];
}

pub returns : goal.returns
returns c =
    c.loop-at.invariant.odd ∙
    ap (λ es. is_odd (count_by (counts c.args.place.now) es))
    (take-steps c.args.path.now c.loop-at.at c.loop-at.invariant.begun c.loop-at-test.false)
