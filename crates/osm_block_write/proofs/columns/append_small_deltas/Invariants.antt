use Rattle.std.proofs.Common.{◌≡◌, ◌++◌, drop, map}
use Rattle.std.specs.Prelude.{pos}
use Rattle.std.specs.Int.{w32}
use Rattle.osm_block_write.proofs.ColumnsLemmas.{coming}
use Rattle.osm_block_write.proofs.columns.append_small_deltas.Given as goal

abbrev pub invariant-loop-item : goal.invariant-loop-item
invariant-loop-item g l =
    l.out ++ coming w32 l.before (map (g.C.SmallColumn.number_in l.column) (drop l.item-index l.items))
    ≡ l.fn.out ++ coming w32 (pos 0) (map (g.C.SmallColumn.number_in l.column) l.items)
