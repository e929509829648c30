use Rattle.std.proofs.Common.{◌≡◌}
use Rattle.osm_opl.specs.Reader.{CanPull}
use Rattle.osm_readers_tests.proofs.readers.copy_items.Given as goal

abbrev pub invariant-loop-pulls : goal.invariant-loop-pulls
invariant-loop-pulls g l = record {
  can : CanPull l.reader;
  name : g.K.Sink.name l.sink ≡ g.K.Sink.name l.initial.sink;
}
