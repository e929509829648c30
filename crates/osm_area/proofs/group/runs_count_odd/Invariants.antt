use Rattle.std.proofs.Common.{◌≡◌, true, drop}
use Rattle.std.specs.Prelude.{not}
use Rattle.std.specs.List.{count_by, list_all}
use Rattle.osm_area.specs.Bounds.{runs_fit}
use Rattle.osm_area.specs.Edges.{counts, is_odd, is_ring_place, steps}
use Rattle.osm_area.proofs.group.runs_count_odd.Given as goal
use mathlib.Core.Bool.{beq}

-- the edges up to here are counted, and the others fit what is left
abbrev pub invariant-loop-run : goal.invariant-loop-run
invariant-loop-run l = record {
  placed : list_all is_ring_place l.rest ≡ true;
  fits : runs_fit (drop l.run-index l.runs) l.rest ≡ true;
  counted : is_odd (count_by (counts l.place) (steps l.path)) ≡
      not (beq l.odd (is_odd (count_by (counts l.place) (steps l.rest))));
}
