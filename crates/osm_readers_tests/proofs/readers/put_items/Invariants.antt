use Rattle.std.proofs.Common.{◌≡◌, length}
use Rattle.osm_opl.specs.Unread.{unread_bytes}
use Rattle.osm_readers_tests.proofs.readers.put_items.Given as goal

abbrev pub invariant-loop-item : goal.invariant-loop-item
invariant-loop-item g l = g.K.Sink.name l.to ≡ g.K.Sink.name l.initial.to

abbrev pub decreases-loop-item : goal.decreases-loop-item
decreases-loop-item g l = length (unread_bytes l.from.unread)
