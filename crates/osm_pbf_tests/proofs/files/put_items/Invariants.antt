use Rattle.std.proofs.Common.{◌≡◌, length}
use Rattle.osm_pbf.specs.Standing.{pbf_items_left}
use Rattle.osm_pbf_tests.proofs.files.put_items.Given as goal

abbrev pub invariant-loop-item : goal.invariant-loop-item
invariant-loop-item g l = g.K.Sink.name l.to ≡ g.K.Sink.name l.initial.to

abbrev pub decreases-loop-item : goal.decreases-loop-item
decreases-loop-item g l = length (pbf_items_left l.from)
