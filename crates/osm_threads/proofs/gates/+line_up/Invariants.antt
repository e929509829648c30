use Rattle.std.proofs.Common.{length}
use Rattle.osm_threads.proofs.gates.+line_up.Given as goal

abbrev pub decreases-line_up : goal.decreases-line_up
decreases-line_up g l = length l.machines.now.items
