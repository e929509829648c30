use Rattle.std.proofs.Common.{◌≡◌, true, drop}
use Rattle.std.specs.Prelude.{not}
use Rattle.std.specs.List.{count_by, list_all}
use Rattle.osm_area.specs.Bounds.{groups_fit}
use Rattle.osm_area.specs.Edges.{counts, is_odd, is_ring_place, steps}
use Rattle.osm_area.proofs.group.groups_count_odd.Given as goal
use mathlib.Core.Bool.{beq}

-- the edges up to here are counted, and the others fit what is left
abbrev pub invariant-loop-group : goal.invariant-loop-group
invariant-loop-group l = record {
  placed : list_all is_ring_place l.rest ≡ true;
  fits : groups_fit (drop l.group-index l.groups) l.rest ≡ true;
  counted : is_odd (count_by (counts l.place) (steps l.path)) ≡
      not (beq l.odd (is_odd (count_by (counts l.place) (steps l.rest))));
}
