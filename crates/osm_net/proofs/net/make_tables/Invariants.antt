use Rattle.osm_net.specs.PortTables.{AreTables}
use Rattle.osm_net.proofs.net.make_tables.Given as goal

abbrev pub invariant-loop-task : goal.invariant-loop-task
invariant-loop-task l = AreTables l.pipes l.task l.tables.items
