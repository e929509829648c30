use Rattle.std.proofs.Common.{sym}
use Rattle.osm_host.proofs.Named.{position-None}
use Rattle.osm_host.proofs.tallies.row_of.Goals as goal

pub unreachable-requires : goal.unreachable-requires
unreachable-requires c = position-None (λ t. t.name) c.args.rows.now c.args.name.now (sym c.in-None.ensures) c.requires
