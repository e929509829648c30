use Rattle.std.proofs.Common.{◌≡◌, map, take}
use Rattle.osm_net.specs.Networks.{empty_queue}
use Rattle.osm_net.proofs.net.make_queues.Given as goal

abbrev pub invariant-loop-pipe : goal.invariant-loop-pipe
invariant-loop-pipe l = l.queues.items ≡ map empty_queue (take l.pipe-index l.pipes)
