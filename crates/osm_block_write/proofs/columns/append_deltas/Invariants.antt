use Rattle.std.proofs.Common.{◌≡◌, ◌++◌, drop, map}
use Rattle.std.specs.Prelude.{pos}
use Rattle.std.specs.Int.{w64}
use Rattle.osm_block_write.proofs.ColumnsLemmas.{coming}
use Rattle.osm_block_write.proofs.columns.append_deltas.Given as goal

abbrev pub invariant-loop-item : goal.invariant-loop-item
invariant-loop-item g l =
    l.out ++ coming w64 l.before (map (g.C.Column.number_in l.column) (drop l.item-index l.items))
    ≡ l.fn.out ++ coming w64 (pos 0) (map (g.C.Column.number_in l.column) l.items)
