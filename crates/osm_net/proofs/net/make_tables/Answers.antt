use Rattle.std.proofs.Common.{subst, sym, ◌+◌}
use Rattle.osm_net.specs.PortTables.{AreTables}
use Rattle.osm_net.proofs.TableLemmas.{tables_more}
use Rattle.osm_net.proofs.net.make_tables.Goals as goal

pub loop-task-preserved : goal.loop-task-preserved
loop-task-preserved c = subst (AreTables c.args.pipes.now (c.loop-task.task + 1)) (sym c.in-Ok.ensures.items)
    (tables_more c.args.pipes.now c.loop-task.task c.loop-task.tables.items c.in_ok-table.table c.loop-task.invariant
    c.in_ok-table.ensures)
