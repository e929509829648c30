use Rattle.std.proofs.Common.{length}
use Rattle.osm_threads.proofs.running.+take_apart.Given as goal

abbrev pub decreases-take_apart : goal.decreases-take_apart
decreases-take_apart g l = length l.backs.items
