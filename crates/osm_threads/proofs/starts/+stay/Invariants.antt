use Rattle.std.proofs.Common.{length}
use Rattle.osm_threads.proofs.starts.+stay.Given as goal

abbrev pub decreases-stay : goal.decreases-stay
decreases-stay g l = length l.starts.items
