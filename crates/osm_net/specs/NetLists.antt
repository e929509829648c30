-- The lists of a network as the code has them, seen as the network.
use Rattle.std.specs.Prelude.{length}
use Rattle.osm_entity.specs.Machines.{Meanings}
use Rattle.osm_net.specs.Networks.{IsNet, NetValue}
use Rattle.osm_net.specs.PortTables.{AreTables}
use Rattle.osm_net.specs.declared.lists.Lists.{Lists}

-- the network of these lists
abbrev pub net_of : {M : Type 0} → Lists M → NetValue M
net_of l = record { pipes = l.pipes.items; machines = l.machines.items; queues = l.queues.items }

-- what the lists of a network keep: the network, and tables of the pipes at its tasks' ports
pub record AreLists {M : Type 0} (of : Meanings M) (l : Lists M) : Type 0 where
  pub net : IsNet of (net_of l)
  pub tables : AreTables l.pipes.items (length l.machines.items) l.tables.items
