use Rattle.std.proofs.Common.{◌≡◌, ◌-◌, ◌≤◌, take}
use Rattle.std.specs.List.{count_by}
use Rattle.osm_area.specs.Edges.{counts, is_odd, steps}
use Rattle.osm_area.proofs.edge.path_counts_odd.Given as goal

-- the edges up to the place before this one are counted
abbrev pub invariant-loop-at : goal.invariant-loop-at
invariant-loop-at l = record {
  begun : 1 ≤ l.at;
  odd : l.odd ≡ is_odd (count_by (counts l.place) (take (l.at - 1) (steps l.path)));
}
