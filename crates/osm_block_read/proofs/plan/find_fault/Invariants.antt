use Rattle.std.proofs.Common.{◌≡◌, drop}
use Rattle.osm_block_read.specs.Faults.{entries_fault}
use Rattle.osm_block_read.specs.Rows.{entries_of}
use Rattle.osm_block_read.proofs.plan.find_fault.Given as goal

abbrev pub invariant-loop-at : goal.invariant-loop-at
invariant-loop-at l = entries_fault l.setting (drop l.at (entries_of l.rows))
    ≡ entries_fault l.setting (entries_of l.rows)
