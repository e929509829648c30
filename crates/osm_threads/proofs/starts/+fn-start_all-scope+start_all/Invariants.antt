use Rattle.std.proofs.Common.{◌+◌, ◌*◌, length}
use Rattle.osm_threads.proofs.starts.+fn-start_all-scope+start_all.Given as goal

abbrev pub decreases-scope : goal.decreases-scope
decreases-scope g l = 2 * length l.starts.items + 1

abbrev pub decreases-start_all : goal.decreases-start_all
decreases-start_all g l = 2 * length l.starts.items
